-- What follows from what always holds of a search: choices are unbeaten, none is passed over. Assumes nothing.
use Rattle.std.proofs.Common.{◌≡◌, ℕ, ◌<◌, ◌≤◌, ◌⊎◌, List, [], ◌∷◌, sym, refl, ap, ◌∙◌, subst, inl, inr, arith}
use Rattle.std.proofs.lemmas.Bool.{cases_lt, cases_eq}
use Rattle.plan.proofs.Measures.{Way, here, along, Measure, Total, size, sum, estimate, grows, sum_mono, sum_grows, admissible}
use Rattle.plan.proofs.Search.{Problem, In, top, below, nowhere, Node, lead_of, second_of, lead_estimate_at, second_estimate_at, child, origin, NoWorse, Real, here_before, Covered, by_open, by_closed, by_end, InOrder, later, Holds}
use Rattle.plan.proofs.Kept.{no_later_lead, no_worse_lead, no_worse_second}

module _ (P : Problem) where
  -- a choice of the place t: a closed node there
  pub record Choice (closed : List (Node P)) (t : ℕ) (n : Node P) : Type 0 where
    pub shown : In n closed
    pub there : n.place ≡ t

  -- a choice of t that costs no more, or an open node whose estimates are no greater
  pub data Met (o : Node P → Type 0) (closed : List (Node P)) (t lead second : ℕ) : Type 0 where
    by_choice : (z : Node P) → Choice closed t z → lead_of P z ≤ lead → second_of P z ≤ second → Met o closed t lead second
    by_waiting : (y : Node P) → o y → lead_estimate_at P y ≤ lead → second_estimate_at P y ≤ second → Met o closed t lead second

  met_weaker : {o : Node P → Type 0} {closed : List (Node P)} (t a b c d : ℕ) → a ≤ c → b ≤ d → Met o closed t a b → Met o closed t c d
  met_weaker t a b c d lead second (by_choice z choice z-lead z-second) = by_choice z choice (omega arith) (omega arith)
  met_weaker t a b c d lead second (by_waiting y waits y-lead y-second) = by_waiting y waits (omega arith) (omega arith)

  module _ {o : Node P → Type 0} {closed : List (Node P)} (h : Holds P o closed) (t : ℕ) (asked : P.Asked t) where
    lead_on : {s : ℕ} → Node P → Way P.graph s t → ℕ
    lead_on n w = size P.lead (sum P.lead n.lead w)

    second_on : {s : ℕ} → Node P → Way P.graph s t → ℕ
    second_on n w = size P.second (sum P.second n.second w)

    lead_admits : (n : Node P) (w : Way P.graph n.place t) → lead_estimate_at P n ≤ lead_on n w
    unfolding lead_on
    lead_admits n w = admissible P.lead P.lead_consistent n.lead w (P.lead_none t asked)

    second_admits : (n : Node P) (w : Way P.graph n.place t) → second_estimate_at P n ≤ second_on n w
    unfolding second_on
    second_admits n w = admissible P.second P.second_consistent n.second w (P.second_none t asked)

    lead_less : (y n : Node P) (w : Way P.graph n.place t) → NoWorse P y n → lead_on y w ≤ lead_on n w
    unfolding lead_on
    lead_less y n w no-worse = sum_mono P.lead y.lead n.lead w no-worse.lead

    second_less : (y n : Node P) (w : Way P.graph n.place t) → NoWorse P y n → second_on y w ≤ second_on n w
    unfolding second_on
    second_less y n w no-worse = sum_mono P.second y.second n.second w no-worse.second

    -- what covers a node meets each way on from its place, given that closed nodes there meet it
    meets : (n : Node P) (w : Way P.graph n.place t) → ((y : Node P) → In y closed → y.place ≡ n.place → Met o closed t (lead_on y w) (second_on y w)) → Covered P o closed n → Met o closed t (lead_on n w) (second_on n w)
    meets n w closed-meets (by_open y waits no-worse) =
        by_waiting y waits (omega (arith, no_worse_lead P y n no-worse, lead_admits n w)) (omega (arith, no_worse_second P y n no-worse, second_admits n w))
    meets n w closed-meets (by_closed y in_y no-worse) =
        met_weaker t _ _ _ _ (lead_less y n w no-worse) (second_less y n w no-worse) (closed-meets y in_y no-worse.place)
    meets n w closed-meets (by_end z in-z ends lead second) =
        by_choice z (record { shown = in-z; there = P.aimed z.place t ends asked }) (omega (arith, lead_admits n w)) (omega (arith, second_admits n w))

    cover : {s : ℕ} (w : Way P.graph s t) (x : Node P) → In x closed → x.place ≡ s → Met o closed t (lead_on x w) (second_on x w)
    unfolding lead_on second_on
    cover (here same) x in_x at = by_choice x (record { shown = in_x; there = at ∙ same }) (omega arith) (omega arith)
    cover (along e leaves w) x in_x at =
        elim (P.ends_or_not x.place) [
          | inl ends ↦ by_choice x (record { shown = in_x; there = P.aimed x.place t ends asked }) (sum_grows P.lead x.lead (along e leaves w)) (sum_grows P.second x.second (along e leaves w))
          | inr not_end ↦ meets (child P x e) w (cover w) (h.opened x in_x not_end e (leaves ∙ sym at))
        ]

  -- every way to t is met
  module _ {o : Node P → Type 0} {closed : List (Node P)} (h : Holds P o closed) (t : ℕ) (asked : P.Asked t) where
    pub all_met : (w : Way P.graph P.start t) → Met o closed t (size P.lead (sum P.lead P.lead.algebra.none w)) (size P.second (sum P.second P.second.algebra.none w))
    unfolding lead_on second_on
    all_met w = meets h t asked (origin P) w (cover h t asked w) h.begun

    -- once nothing waits, every way costs at least as much as some choice
    pub complete : ((n : Node P) → o n → ⊥) → (w : Way P.graph P.start t) → (z : Node P) × Choice closed t z × (lead_of P z ≤ size P.lead (sum P.lead P.lead.algebra.none w)) × (second_of P z ≤ size P.second (sum P.second P.second.algebra.none w))
    complete nothing w =
        elim (all_met w) [
          | by_choice z choice lead second ↦ (z, choice, lead, second)
          | by_waiting y waits lead second ↦ absurd (nothing y waits)
        ]

  -- where there is no forecast, estimates are totals
  flat : (m : Measure P.graph) (g : Total m) (s : ℕ) → size m (m.forecast s) ≡ 0 → estimate m g s ≡ size m g
  flat m g s none-there =
      omega (arith, grows m g (m.forecast s), m.algebra.none_right g, m.algebra.mono_right (m.forecast s) m.algebra.none g (omega (arith, m.algebra.none_size)))

  module _ (t : ℕ) (asked : P.Asked t) where
    lead_flat : (n : Node P) → n.place ≡ t → lead_estimate_at P n ≡ lead_of P n
    lead_flat n there = flat P.lead n.lead n.place (ap (λ (s : ℕ). size P.lead (P.lead.forecast s)) there ∙ P.lead_none t asked)

    second_flat : (n : Node P) → n.place ≡ t → second_estimate_at P n ≡ second_of P n
    second_flat n there = flat P.second n.second n.place (ap (λ (s : ℕ). size P.second (P.second.forecast s)) there ∙ P.second_none t asked)

    -- a later choice has the greater leading and the less second total
    pub rising : (x y : Node P) (closed : List (Node P)) → InOrder P (x ∷ closed) → In y closed → x.place ≡ t → y.place ≡ t → (lead_of P y < lead_of P x) × (second_of P x < second_of P y)
    rising x y closed (later first unblocked rest) in_y x-there y-there =
        let less : second_of P x < second_of P y =
        elim (cases_lt (second_of P x) (second_of P y)) [
          | inl h ↦ h
          | inr h ↦ absurd (unblocked (here_before y in_y (y-there ∙ sym x-there) h))
        ] in
        let flat_x = lead_flat x x-there in
        let flat_y = lead_flat y y-there in
        elim (first y in_y) [
          | inl before ↦ (omega arith, less)
          | inr level ↦ absurd (omega (arith, second_flat x x-there, second_flat y y-there))
        ]

    -- no choice is better than another
    no_better : (x z : Node P) {closed : List (Node P)} → InOrder P closed → In x closed → In z closed → x.place ≡ t → z.place ≡ t → lead_of P z ≤ lead_of P x → second_of P z ≤ second_of P x → (lead_of P z ≡ lead_of P x) × (second_of P z ≡ second_of P x)
    no_better x z order top top x-there z-there lead second = (refl, refl)
    no_better x z order top (below in-z) x-there z-there lead second = absurd (let gap = rising x z _ order in-z x-there z-there in omega (arith, gap.1))
    no_better x z order (below in_x) top x-there z-there lead second = absurd (let gap = rising z x _ order in_x z-there x-there in omega (arith, gap.0))
    no_better x z (later first unblocked rest) (below in_x) (below in-z) x-there z-there lead second = no_better x z rest in_x in-z x-there z-there lead second

  -- no way to t has totals that are less in one and no greater in the other
  abbrev pub Unbeaten : ℕ → ℕ → ℕ → Type 0
  Unbeaten t lead second =
      (w : Way P.graph P.start t) → size P.lead (sum P.lead P.lead.algebra.none w) ≤ lead → size P.second (sum P.second P.second.algebra.none w) ≤ second →
      (size P.lead (sum P.lead P.lead.algebra.none w) ≡ lead) × (size P.second (sum P.second P.second.algebra.none w) ≡ second)

  -- the way of a node leads to its place
  pub arrives : (n : Node P) → Real P n → (t : ℕ) → n.place ≡ t → (w : Way P.graph P.start t) × (size P.lead (sum P.lead P.lead.algebra.none w) ≡ lead_of P n) × (size P.second (sum P.second P.second.algebra.none w) ≡ second_of P n)
  arrives n r t there =
      subst (λ (s : ℕ). (w : Way P.graph P.start s) × (size P.lead (sum P.lead P.lead.algebra.none w) ≡ lead_of P n) × (size P.second (sum P.second P.second.algebra.none w) ≡ second_of P n)) there (r.way, r.lead, r.second)

  module _ {o : Node P → Type 0} {closed : List (Node P)} (h : Holds P o closed) (t : ℕ) (asked : P.Asked t) where
    pub unbeaten : (x : Node P) → Choice closed t x → Unbeaten t (lead_of P x) (second_of P x)
    unbeaten x choice w lead second =
        elim (all_met h t asked w) [
          | by_choice z other z-lead z-second ↦
              let same = no_better t asked x z h.ordered choice.shown other.shown choice.there other.there (omega arith) (omega arith) in
              (omega (arith, same.0), omega (arith, same.1))
          | by_waiting y waits y-lead y-second ↦
              let flat_lead = lead_flat t asked x choice.there in
              let flat_second = second_flat t asked x choice.there in
              elim (h.closed_first x y choice.shown waits) [
                | inl before ↦ absurd (omega arith)
                | inr level ↦ (omega arith, omega arith)
              ]
        ]

    less_all : (lead : ℕ) (n : Node P) (cs : List (Node P)) → ((c : Node P) → In c cs → c.place ≡ t → lead_of P c < lead) → (n.place ≡ t → lead_of P n < lead) → (c : Node P) → In c (n ∷ cs) → c.place ≡ t → lead_of P c < lead
    less_all lead n cs less this c top there = this there
    less_all lead n cs less this c (below in_c) there = less c in_c there

    -- a choice of this leading total, or all choices have less
    reached : (lead : ℕ) (cs : List (Node P)) → ((c : Node P) → In c cs → c.place ≡ t → lead_of P c ≤ lead) →
        ((c : Node P) × In c cs × (c.place ≡ t) × (lead_of P c ≡ lead)) ⊎ ((c : Node P) → In c cs → c.place ≡ t → lead_of P c < lead)
    reached lead [] most = inr (λ c in_c there. absurd (nowhere c in_c))
    reached lead (n ∷ cs) most =
        elim (reached lead cs (λ c in_c there. most c (below in_c) there)) [
          | inl found ↦ inl (found.0, below found.1, found.2, found.3)
          | inr less ↦
              elim (cases_eq n.place t) [
                | inl here_too ↦
                    elim (cases_eq (lead_of P n) lead) [
                      | inl level ↦ inl (n, top, here_too, level)
                      | inr other ↦ inr (less_all lead n cs less (λ there. let le = most n top there in omega arith))
                    ]
                | inr elsewhere ↦ inr (less_all lead n cs less (λ there. absurd (elsewhere there)))
              ]
        ]

    -- a choice that costs no more than an unbeaten way costs the same
    equals : (w : Way P.graph P.start t) → Unbeaten t (size P.lead (sum P.lead P.lead.algebra.none w)) (size P.second (sum P.second P.second.algebra.none w)) →
        (z : Node P) → Choice closed t z → lead_of P z ≤ size P.lead (sum P.lead P.lead.algebra.none w) → second_of P z ≤ size P.second (sum P.second P.second.algebra.none w) →
        (lead_of P z ≡ size P.lead (sum P.lead P.lead.algebra.none w)) × (second_of P z ≡ size P.second (sum P.second P.second.algebra.none w))
    equals w best z choice lead second =
        let r = arrives z (h.real_closed z choice.shown) t choice.there in
        let same = best r.0 (omega (arith, r.1)) (omega (arith, r.2)) in
        (sym r.1 ∙ same.0, sym r.2 ∙ same.1)

    -- a choice with the leading total of a way whose estimates wait
    second_also : (c y : Node P) (w : Way P.graph P.start t) → In c closed → c.place ≡ t → o y → lead_of P c ≡ size P.lead (sum P.lead P.lead.algebra.none w) →
        lead_estimate_at P y ≤ size P.lead (sum P.lead P.lead.algebra.none w) → second_estimate_at P y ≤ size P.second (sum P.second P.second.algebra.none w) →
        second_of P c ≤ size P.second (sum P.second P.second.algebra.none w)
    second_also c y w in_c there waits level lead second =
        let flat_lead = lead_flat t asked c there in
        let flat_second = second_flat t asked c there in
        elim (h.closed_first c y in_c waits) [ inl before ↦ absurd (omega arith) | inr equal ↦ omega arith ]

    -- each pair of totals of a way that no way beats is a choice, or comes after all choices
    pub first_ones : (w : Way P.graph P.start t) → Unbeaten t (size P.lead (sum P.lead P.lead.algebra.none w)) (size P.second (sum P.second P.second.algebra.none w)) →
        ((z : Node P) × Choice closed t z × (lead_of P z ≡ size P.lead (sum P.lead P.lead.algebra.none w)) × (second_of P z ≡ size P.second (sum P.second P.second.algebra.none w)))
        ⊎ ((c : Node P) → Choice closed t c → lead_of P c < size P.lead (sum P.lead P.lead.algebra.none w))
    first_ones w best =
        elim (all_met h t asked w) [
          | by_choice z choice lead second ↦ let same = equals w best z choice lead second in inl (z, choice, same.0, same.1)
          | by_waiting y waits lead second ↦
              elim (reached (size P.lead (sum P.lead P.lead.algebra.none w)) closed (λ c in_c there. omega (arith, lead_flat t asked c there, no_later_lead P c y (h.closed_first c y in_c waits)))) [
                | inl found ↦
                    let c = found.0 in
                    let choice : Choice closed t c = record { shown = found.1; there = found.2 } in
                    let same = equals w best c choice (omega (arith, found.3)) (second_also c y w found.1 found.2 waits found.3 lead second) in
                    inl (c, choice, same.0, same.1)
                | inr less ↦ inr (λ c choice. less c choice.shown choice.there)
              ]
        ]
