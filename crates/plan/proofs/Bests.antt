-- The table of bests tells which nodes are blocked. Assumes nothing.
use Rattle.std.proofs.Common.{◌≡◌, ℕ, ◌<◌, ◌≤◌, true, false, List, ◌∷◌, length, get_or, set, Some, None, Option, sym, ap, ◌∙◌, subst, inl, inr, arith}
use Rattle.std.proofs.lemmas.List.{get_or-set_same, get_or-set_other, length-set}
use Rattle.std.proofs.lemmas.Bool.{cases_lt, cases_eq, leb-true, le-leb, or_cases, or_left, or_right, both_ways}
use Rattle.plan.specs.declared.record.Record.{Record}
use Rattle.plan.specs.Rules.{Task, at_most, best_at, useless, second_estimate}
use Rattle.plan.specs.Openings.{Fair}
use Rattle.plan.proofs.Search.{In, top, below, Node, second_estimate_at, Blocked, here_before, ended_before}
use Rattle.plan.proofs.Instance.{problem_of}

pub at_most_more : (o : Option ℕ) (m n : ℕ) → at_most o m ≡ true → m ≤ n → at_most o n ≡ true
at_most_more None m n e le = e
at_most_more (Some b) m n e le = le-leb b n (omega (arith, leb-true b m e))

module _ (task : Task) (fair : Fair task) where
  -- the record r is the node n
  pub record Stands (r : Record) (n : Node (problem_of task fair)) : Type 0 where
    pub place : r.place ≡ n.place
    pub lead : r.leading ≡ n.lead.0
    pub second : r.second ≡ n.second.0

  pub record BestsOf (bests : List (Option ℕ)) (closed : List (Node (problem_of task fair))) : Type 0 where
    pub long : length bests ≡ task.building.places
    pub low : (y : Node (problem_of task fair)) → In y closed → at_most (best_at bests y.place) y.second.0 ≡ true
    pub met : (p g : ℕ) → at_most (best_at bests p) g ≡ true → (y : Node (problem_of task fair)) × In y closed × (y.place ≡ p) × (y.second.0 ≤ g)

  module _ {bests : List (Option ℕ)} {closed : List (Node (problem_of task fair))} (table : BestsOf bests closed) (r : Record) (n : Node (problem_of task fair)) (is : Stands r n) where
    second_is : second_estimate task r ≡ second_estimate_at (problem_of task fair) n
    second_is = (λ i. task.building.second.joined (is.second i) (get_or task.second (is.place i) 0))

    pub useless_blocked : useless task bests r ≡ true → Blocked (problem_of task fair) closed n
    useless_blocked e =
        elim (or_cases _ _ e) [
          | inl by_place ↦
              let y = table.met r.place r.second by_place in
              here_before y.0 y.1 (y.2 ∙ is.place) (omega (arith, y.3, is.second))
          | inr by_goal ↦
              let z = table.met task.goal (second_estimate task r) by_goal in
              ended_before z.0 z.1 z.2 (omega (arith, z.3, second_is))
        ]

    pub blocked_useless : Blocked (problem_of task fair) closed n → useless task bests r ≡ true
    blocked_useless (here_before y in_y same le) =
        or_left _ _ (at_most_more _ y.second.0 r.second (subst (λ (p : ℕ). at_most (best_at bests p) y.second.0 ≡ true) (same ∙ sym is.place) (table.low y in_y)) (omega (arith, is.second)))
    blocked_useless (ended_before z in-z ends le) =
        or_right _ _ (at_most_more _ z.second.0 (second_estimate task r) (subst (λ (p : ℕ). at_most (best_at bests p) z.second.0 ≡ true) ends (table.low z in-z)) (omega (arith, second_is)))

  -- after a node is closed
  module _ {bests : List (Option ℕ)} {closed : List (Node (problem_of task fair))} (table : BestsOf bests closed) (r : Record) (x : Node (problem_of task fair)) (is : Stands r x) (inside : r.place < task.building.places) (of_use : useless task bests r ≡ false) where
    abbrev bests' : List (Option ℕ)
    bests' = set bests r.place (Some r.second)

    here_now : (p : ℕ) → p ≡ r.place → best_at bests' p ≡ Some r.second
    here_now p e = ap (best_at bests') e ∙ get_or-set_same bests r.place (Some r.second) None (omega (arith, table.long))

    there_still : (p : ℕ) → (p ≡ r.place → ⊥) → best_at bests' p ≡ best_at bests p
    there_still p ne = get_or-set_other bests r.place p (Some r.second) None ne

    low_now : (y : Node (problem_of task fair)) → In y (x ∷ closed) → at_most (best_at bests' y.place) y.second.0 ≡ true
    low_now y top = ap (λ o. at_most o y.second.0) (here_now y.place (sym is.place)) ∙ le-leb _ _ (omega (arith, is.second))
    low_now y (below in_y) =
        elim (cases_eq y.place r.place) [
          | inl same ↦ ap (λ o. at_most o y.second.0) (here_now y.place same) ∙
              elim (cases_lt y.second.0 r.second) [
                | inl less ↦ absurd (both_ways _ of_use (blocked_useless table r x is (here_before y in_y (same ∙ is.place) (omega (arith, is.second)))))
                | inr ok ↦ le-leb _ _ ok
              ]
          | inr other ↦ ap (λ o. at_most o y.second.0) (there_still y.place other) ∙ table.low y in_y
        ]

    met_now : (p g : ℕ) → at_most (best_at bests' p) g ≡ true → (y : Node (problem_of task fair)) × In y (x ∷ closed) × (y.place ≡ p) × (y.second.0 ≤ g)
    met_now p g e =
        elim (cases_eq p r.place) [
          | inl same ↦ (x, top, sym is.place ∙ sym same, omega (arith, is.second, leb-true r.second g (sym (ap (λ o. at_most o g) (here_now p same)) ∙ e)))
          | inr other ↦ let y = table.met p g (sym (ap (λ o. at_most o g) (there_still p other)) ∙ e) in (y.0, below y.1, y.2, y.3)
        ]

    pub bests_closed : BestsOf bests' (x ∷ closed)
    bests_closed = record { long = length-set bests r.place (Some r.second) ∙ table.long; low = low_now; met = met_now }
