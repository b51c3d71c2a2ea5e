-- What always holds of a search is kept by each of its steps. Assumes nothing.
use Rattle.std.proofs.Common.{◌≡◌, ℕ, ◌≤◌, List, ◌∷◌, sym, ap, ◌∙◌, subst, inl, inr, arith}
use Rattle.std.proofs.lemmas.Bool.{cases_lt}
use Rattle.plan.proofs.Measures.{estimate, grows, estimate_mono, rises, join_same, then_edge, sum_then}
use Rattle.plan.proofs.Search.{Problem, In, top, below, Node, lead_estimate_at, second_estimate_at, child, origin, NoLater, NoWorse, Real, here_before, ended_before, Answered, blocked, waits, Covered, by_open, by_closed, by_end, later, Holds, Same, Closes, Drops}

module _ (P : Problem) where
  no_later_trans : (a b c : Node P) → NoLater P a b → NoLater P b c → NoLater P a c
  no_later_trans a b c (inl p) (inl q) = inl (omega arith)
  no_later_trans a b c (inl p) (inr q) = inl (omega arith)
  no_later_trans a b c (inr p) (inl q) = inl (omega arith)
  no_later_trans a b c (inr p) (inr q) = inr (omega arith, omega arith)

  pub no_later_lead : (a b : Node P) → NoLater P a b → lead_estimate_at P a ≤ lead_estimate_at P b
  no_later_lead a b (inl p) = omega arith
  no_later_lead a b (inr p) = omega arith

  -- the estimates of one node at the place of another
  lead_there : (a b : Node P) → a.place ≡ b.place → estimate P.lead a.lead b.place ≡ lead_estimate_at P a
  lead_there a b same = ap (λ (s : ℕ). estimate P.lead a.lead s) (sym same)

  second_there : (a b : Node P) → a.place ≡ b.place → estimate P.second a.second b.place ≡ second_estimate_at P a
  second_there a b same = ap (λ (s : ℕ). estimate P.second a.second s) (sym same)

  pub no_worse_lead : (y x : Node P) → NoWorse P y x → lead_estimate_at P y ≤ lead_estimate_at P x
  no_worse_lead y x w = omega (arith, lead_there y x w.place, estimate_mono P.lead y.lead x.lead x.place w.lead)

  pub no_worse_second : (y x : Node P) → NoWorse P y x → second_estimate_at P y ≤ second_estimate_at P x
  no_worse_second y x w = omega (arith, second_there y x w.place, estimate_mono P.second y.second x.second x.place w.second)

  no_worse_trans : (a b c : Node P) → NoWorse P a b → NoWorse P b c → NoWorse P a c
  no_worse_trans a b c p q = record { place = p.place ∙ q.place; lead = omega (arith, p.lead, q.lead); second = omega (arith, p.second, q.second) }

  same_no_worse : (y x : Node P) → Same P y x → NoWorse P y x
  same_no_worse y x s = record { place = s.place; lead = omega (arith, s.lead); second = omega (arith, s.second) }

  same_back : (y x : Node P) → Same P y x → Same P x y
  same_back y x s = record { place = sym s.place; lead = sym s.lead; second = sym s.second }

  module _ (o : Node P → Type 0) (closed : List (Node P)) where
    -- what covers a node covers each that is no better
    covered_weaker : (y x : Node P) → NoWorse P y x → Covered P o closed y → Covered P o closed x
    covered_weaker y x w (by_open z open-z z-no-worse) = by_open z open-z (no_worse_trans z y x z-no-worse w)
    covered_weaker y x w (by_closed z in-z z-no-worse) = by_closed z in-z (no_worse_trans z y x z-no-worse w)
    covered_weaker y x w (by_end z in-z ends lead second) =
        by_end z in-z ends (omega (arith, no_worse_lead y x w)) (omega (arith, no_worse_second y x w))

    -- what is answered is covered, if every closed node came no later
    covered : (x : Node P) → ((y : Node P) → In y closed → NoLater P y x) → Answered P o closed x → Covered P o closed x
    covered x first (waits y open-y no-worse) = by_open y open-y no-worse
    covered x first (blocked (here_before y in_y same second)) =
        let order = no_later_lead y x (first y in_y) in
        by_closed y in_y (record { place = same; lead = P.lead_told y.lead x.lead x.place (omega (arith, lead_there y x same)); second = second })
    covered x first (blocked (ended_before z in-z ends second)) =
        by_end z in-z ends (omega (arith, grows P.lead z.lead (P.lead.forecast z.place), no_later_lead z x (first z in-z))) second

  -- a child comes no earlier than its parent
  child_later : (x : Node P) (e : P.graph.Edge) → P.graph.from e ≡ x.place → NoLater P x (child P x e)
  child_later x e leaves =
      let lead : lead_estimate_at P x ≤ lead_estimate_at P (child P x e) =
      omega (arith, ap (λ (s : ℕ). estimate P.lead x.lead s) leaves, rises P.lead P.lead_consistent x.lead e) in
      let second : second_estimate_at P x ≤ second_estimate_at P (child P x e) =
      omega (arith, ap (λ (s : ℕ). estimate P.second x.second s) leaves, rises P.second P.second_consistent x.second e) in
      elim (cases_lt (lead_estimate_at P x) (lead_estimate_at P (child P x e))) [ inl less ↦ inl less | inr not_less ↦ inr (omega arith, second) ]

  no_later_same : (y n c : Node P) → Same P n c → NoLater P y c → NoLater P y n
  no_later_same y n c same order =
      let lead : lead_estimate_at P n ≡ lead_estimate_at P c =
      omega (arith, no_worse_lead n c (same_no_worse n c same), no_worse_lead c n (same_no_worse c n (same_back n c same))) in
      let second : second_estimate_at P n ≡ second_estimate_at P c =
      omega (arith, no_worse_second n c (same_no_worse n c same), no_worse_second c n (same_no_worse c n (same_back n c same))) in
      elim order [ inl less ↦ inl (omega arith) | inr equal ↦ inr (omega arith, omega arith) ]

  real_same : (n c : Node P) → Same P n c → Real P c → Real P n
  real_same n c same r =
      let moved : (t : ℕ) → c.place ≡ t → Real P (record { place = t; lead = c.lead; second = c.second }) =
      λ t e. subst (λ (s : ℕ). Real P (record { place = s; lead = c.lead; second = c.second })) e r in
      let there = moved n.place (sym same.place) in
      record { way = there.way; lead = there.lead ∙ sym same.lead; second = there.second ∙ sym same.second }

  real_child : (x : Node P) (e : P.graph.Edge) → P.graph.from e ≡ x.place → Real P x → Real P (child P x e)
  real_child x e leaves r = record {
    way = then_edge r.way e leaves;
    lead = sum_then P.lead P.lead.algebra.none r.way e leaves ∙ join_same P.lead _ x.lead (P.lead.cost e) r.lead;
    second = sum_then P.second P.second.algebra.none r.way e leaves ∙ join_same P.second _ x.second (P.second.cost e) r.second;
  }

  module _ {o o' : Node P → Type 0} {closed : List (Node P)} (h : Holds P o closed) where
    -- what was covered stays covered, if each open node is covered afterwards
    still : {closed' : List (Node P)} → ((n : Node P) → In n closed → In n closed') → ((n : Node P) → o n → Covered P o' closed' n) → (x : Node P) → Covered P o closed x → Covered P o' closed' x
    still {closed'} keeps then-covered x (by_open y open-y no-worse) = covered_weaker o' closed' y x no-worse (then-covered y open-y)
    still keeps then-covered x (by_closed y in_y no-worse) = by_closed y (keeps y in_y) no-worse
    still keeps then-covered x (by_end z in-z ends lead second) = by_end z (keeps z in-z) ends lead second

    pub holds_drops : Drops P o closed o' → Holds P o' closed
    holds_drops d =
        let after : (n : Node P) → o n → Covered P o' closed n = λ n open_n. covered o' closed n (λ y in_y. h.closed_first y n in_y open_n) (d.left n open_n) in
        record {
          real_open = λ n open_n. h.real_open n (d.fewer n open_n);
          real_closed = h.real_closed;
          closed_first = λ y x in_y open_x. h.closed_first y x in_y (d.fewer x open_x);
          ordered = h.ordered;
          begun = still (λ n in_n. in_n) after (origin P) h.begun;
          opened = λ x in_x not_end e leaves. still (λ n in_n. in_n) after (child P x e) (h.opened x in_x not_end e leaves);
        }

    module _ (x : Node P) (c : Closes P o closed x o') where
      -- closed nodes, x among them, come no later than what is open and than the children of x
      first_open : (n : Node P) → o n → (y : Node P) → In y (x ∷ closed) → NoLater P y n
      first_open n open_n y top = c.least n open_n
      first_open n open_n y (below in_y) = h.closed_first y n in_y open_n

      first_child : (e : P.graph.Edge) → P.graph.from e ≡ x.place → (y : Node P) → In y (x ∷ closed) → NoLater P y (child P x e)
      first_child e leaves y top = child_later x e leaves
      first_child e leaves y (below in_y) = no_later_trans y x (child P x e) (h.closed_first y x in_y c.was) (child_later x e leaves)

      after : (n : Node P) → o n → Covered P o' (x ∷ closed) n
      after n open_n =
          elim (c.left n open_n) [
            | inl same ↦ by_closed x top (same_no_worse x n (same_back n x same))
            | inr answered ↦ covered o' (x ∷ closed) n (first_open n open_n) answered
          ]

      closed_before : (y n : Node P) → In y (x ∷ closed) → o' n → NoLater P y n
      closed_before y n in_y open_n =
          elim (c.only n open_n) [
            | inl was_open ↦ first_open n was_open y in_y
            | inr born ↦ no_later_same y n (child P x born.0) born.2 (first_child born.0 born.1 y in_y)
          ]

      opened_after : (y : Node P) → In y (x ∷ closed) → (P.Ends y.place → ⊥) → (e : P.graph.Edge) → P.graph.from e ≡ y.place → Covered P o' (x ∷ closed) (child P y e)
      opened_after y top not_end e leaves = covered o' (x ∷ closed) (child P x e) (first_child e leaves) (c.children not_end e leaves)
      opened_after y (below in_y) not_end e leaves = still (λ n in_n. below in_n) after (child P y e) (h.opened y in_y not_end e leaves)

      real_in : (n : Node P) → In n (x ∷ closed) → Real P n
      real_in n top = h.real_open x c.was
      real_in n (below in_n) = h.real_closed n in_n

      real_open_after : (n : Node P) → o' n → Real P n
      real_open_after n open_n =
          elim (c.only n open_n) [
            | inl was_open ↦ h.real_open n was_open
            | inr born ↦ real_same n (child P x born.0) born.2 (real_child x born.0 born.1 (h.real_open x c.was))
          ]

      pub holds_closes : Holds P o' (x ∷ closed)
      holds_closes = record {
        real_open = real_open_after;
        real_closed = real_in;
        closed_first = closed_before;
        ordered = later (λ y in_y. h.closed_first y x in_y c.was) c.unblocked h.ordered;
        begun = still (λ n in_n. below in_n) after (origin P) h.begun;
        opened = opened_after;
      }
