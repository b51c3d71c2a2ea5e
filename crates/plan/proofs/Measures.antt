-- A cost as the search sees it: sizes of totals, a join, forecasts. Assumes nothing.
--   Algebra              totals of one cost, each with a size, and their join
--   Graph                passages between places
--   Way G s t            a list of passages of G that leads from s to t
--   Measure G            a cost: its algebra, the value of each passage, the forecast of each place
--   sum m g w            the total g joined with the values of w in order
--   estimate m g s       the total g joined with the forecast of s
use Rattle.std.proofs.Common.{◌≡◌, ℕ, ◌≤◌, sym, refl, ap, ◌∙◌, arith}

pub record Algebra : Type 1 where
  pub Total : Type 0
  pub size : Total → ℕ
  pub none : Total
  pub join : Total → Total → Total
  pub none_size : size none ≡ 0
  pub none_left : (a : Total) → size (join none a) ≡ size a
  pub none_right : (a : Total) → size (join a none) ≡ size a
  pub assoc : (a b c : Total) → size (join (join a b) c) ≡ size (join a (join b c))
  pub mono_left : (a b c : Total) → size a ≤ size b → size (join a c) ≤ size (join b c)
  pub mono_right : (a b c : Total) → size a ≤ size b → size (join c a) ≤ size (join c b)

pub record Graph : Type 1 where
  pub Edge : Type 0
  pub from : Edge → ℕ
  pub to : Edge → ℕ

pub data Way (G : Graph) : ℕ → ℕ → Type 0 where
  here : {s t : ℕ} → s ≡ t → Way G s t
  along : {s t : ℕ} (e : G.Edge) → G.from e ≡ s → Way G (G.to e) t → Way G s t

pub record Measure (G : Graph) : Type 1 where
  pub algebra : Algebra
  pub cost : G.Edge → algebra.Total
  pub forecast : ℕ → algebra.Total

module _ {G : Graph} (m : Measure G) where
  abbrev pub Total : Type 0
  Total = m.algebra.Total

  abbrev pub size : Total → ℕ
  size a = m.algebra.size a

  abbrev pub join : Total → Total → Total
  join a b = m.algebra.join a b

  abbrev pub sum : {s t : ℕ} → Total → Way G s t → Total
  sum g (here same) = g
  sum g (along e leaves w) = sum (join g (m.cost e)) w

  abbrev pub estimate : Total → ℕ → ℕ
  estimate g s = size (join g (m.forecast s))

  -- a forecast is at most the value of a passage joined with the forecast behind it
  abbrev pub Consistent : Type 0
  Consistent = (e : G.Edge) → size (m.forecast (G.from e)) ≤ size (join (m.cost e) (m.forecast (G.to e)))

  pub grows : (a c : Total) → size a ≤ size (join a c)
  grows a c = omega (arith, m.algebra.none_right a, m.algebra.mono_right m.algebra.none c a (omega (arith, m.algebra.none_size)))

  pub sum_mono : {s t : ℕ} (a b : Total) (w : Way G s t) → size a ≤ size b → size (sum a w) ≤ size (sum b w)
  sum_mono a b (here same) le = le
  sum_mono a b (along e leaves w) le = sum_mono (join a (m.cost e)) (join b (m.cost e)) w (m.algebra.mono_left a b (m.cost e) le)

  pub sum_grows : {s t : ℕ} (a : Total) (w : Way G s t) → size a ≤ size (sum a w)
  sum_grows a (here same) = omega arith
  sum_grows a (along e leaves w) = omega (arith, grows a (m.cost e), sum_grows (join a (m.cost e)) w)

  pub estimate_mono : (a b : Total) (s : ℕ) → size a ≤ size b → estimate a s ≤ estimate b s
  estimate_mono a b s le = m.algebra.mono_left a b (m.forecast s) le

  -- along a passage estimates do not fall
  pub rises : Consistent → (g : Total) (e : G.Edge) → estimate g (G.from e) ≤ estimate (join g (m.cost e)) (G.to e)
  rises con g e =
      omega (
        arith,
        m.algebra.mono_right (m.forecast (G.from e)) (join (m.cost e) (m.forecast (G.to e))) g (con e),
        m.algebra.assoc g (m.cost e) (m.forecast (G.to e)),
      )

  -- an estimate is at most the total of any way on to a place without a forecast
  pub admissible : Consistent → {s t : ℕ} (g : Total) (w : Way G s t) → size (m.forecast t) ≡ 0 → estimate g s ≤ size (sum g w)
  admissible con {s} g (here same) zero_there =
      let zero_here = ap (λ (p : ℕ). size (m.forecast p)) same in
      omega (arith, m.algebra.none_right g, m.algebra.mono_right (m.forecast s) m.algebra.none g (omega (arith, m.algebra.none_size)))
  admissible con {s} g (along e leaves w) zero_there =
      let onward = admissible con (join g (m.cost e)) w zero_there in
      omega (arith, ap (λ (p : ℕ). estimate g p) leaves, rises con g e, onward)

  -- totals of one size are joined to one size
  pub join_same : (a b c : Total) → size a ≡ size b → size (join a c) ≡ size (join b c)
  join_same a b c same = omega (arith, m.algebra.mono_left a b c (omega arith), m.algebra.mono_left b a c (omega arith))

-- a way and one passage more
pub then_edge : {G : Graph} {s t : ℕ} → Way G s t → (e : G.Edge) → G.from e ≡ t → Way G s (G.to e)
then_edge (here same) e leaves = along e (leaves ∙ sym same) (here refl)
then_edge (along d begins w) e leaves = along d begins (then_edge w e leaves)

pub sum_then : {G : Graph} (m : Measure G) {s t : ℕ} (g : Total m) (w : Way G s t) (e : G.Edge) (leaves : G.from e ≡ t) → size m (sum m g (then_edge w e leaves)) ≡ size m (join m (sum m g w) (m.cost e))
unfolding then_edge
sum_then m g (here same) e leaves = refl
sum_then m g (along d begins w) e leaves = sum_then m (join m g (m.cost d)) w e leaves
