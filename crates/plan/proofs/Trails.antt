-- What bounds the totals of every record, so that each join that a step makes has a result. Assumes nothing.
--   trail bests g        how many places have a best of at most g
--   Under c r            both totals of the record r are at most c
--   Trailed bests r      both totals of r are at most 1000000, the greatest value of a passage, for each place of its trail
-- A record that is opened up has a second total below any best of its place. That best falls to it, so that the trail of each child has at least one place more.
use Rattle.std.proofs.Common.{◌≡◌, ℕ, ◌+◌, ◌*◌, ◌<◌, ◌≤◌, Bool, true, false, cond, leb, List, [], ◌∷◌, length, get_or, set, Some, None, count_by, Option, sym, refl, subst, inl, inr, arith}
use Rattle.std.proofs.lemmas.List.Sums.{sum_by-cons, sum_by-set, count_by-le-length}
use Rattle.std.proofs.lemmas.Bool.{cases_lt, cond-true, cond-false, le-leb, both_ways, or_parts}
use Rattle.costs.specs.Kinds.{Kind, Lawful}
use Rattle.costs.specs.declared.entry.Entry.{Entry}
use Rattle.costs.proofs.Joins.{joins_there}
use Rattle.plan.specs.declared.record.Record.{Record}
use Rattle.plan.specs.Rules.{Task, State, no_record, begun, record_at, at_most, best_at, useless, child_along, after}
use Rattle.plan.specs.Joins.{Joined, EstimatesJoin, ChildJoins, StepJoins}
use Rattle.plan.specs.Openings.{Fits, Fair}
use Rattle.plan.specs.Promise.{JoinTheorem}
use Rattle.plan.proofs.Bests.{at_most_more}
use Rattle.plan.proofs.Steps.{seen, bests_then, kids, only_first, each_more, each_kid, Cases, always}
use Rattle.plan.proofs.Tied.{Valid, child_valid}
use Rattle.plan.proofs.Runs.{Goes, stored_now, goes_after}

abbrev trail : List (Option ℕ) → ℕ → ℕ
trail bests g = count_by (λ (o : Option ℕ). at_most o g) bests

counted_more : (x y : Bool) → (x ≡ true → y ≡ true) → cond {A = ℕ} x 1 0 ≤ cond y 1 0
counted_more true y h = omega (arith, cond-true {A = ℕ} y 1 0 (h refl))
counted_more false y h = omega arith

trail_more : (bests : List (Option ℕ)) (g h : ℕ) → g ≤ h → trail bests g ≤ trail bests h
trail_more [] g h le = omega arith
trail_more (o ∷ os) g h le =
    omega (arith, sum_by-cons (λ (q : Option ℕ). cond {A = ℕ} (at_most q g) 1 0) o os, sum_by-cons (λ (q : Option ℕ). cond {A = ℕ} (at_most q h) 1 0) o os, counted_more (at_most o g) (at_most o h) (λ e. at_most_more o g h e le), trail_more os g h le)

-- the best of p falls to b, and with it no trail gets shorter, while that of b gets longer
module _ (bests : List (Option ℕ)) (p b : ℕ) (inside : p < length bests) (greater : at_most (best_at bests p) b ≡ false) where
  counts : (g : ℕ) → trail (set bests p (Some b)) g + cond (at_most (best_at bests p) g) 1 0 ≡ trail bests g + cond (leb b g) 1 0
  counts g = sum_by-set (λ (o : Option ℕ). cond {A = ℕ} (at_most o g) 1 0) bests p (Some b) None inside

  trail_kept : (g : ℕ) → trail bests g ≤ trail (set bests p (Some b)) g
  trail_kept g = omega (arith, counts g, counted_more (at_most (best_at bests p) g) (leb b g) falls)
    where
      falls : at_most (best_at bests p) g ≡ true → leb b g ≡ true
      falls e =
          elim (cases_lt g b) [
            | inl less ↦ absurd (both_ways _ greater (at_most_more (best_at bests p) g b e (omega arith)))
            | inr no_less ↦ le-leb b g no_less
          ]

  trail_longer : trail bests b < trail (set bests p (Some b)) b
  trail_longer = omega (arith, counts b, cond-false {A = ℕ} _ 1 0 greater, cond-true {A = ℕ} (leb b b) 1 0 (le-leb b b (omega arith)))

-- a total of one cost, joined with the value of a passage or with a forecast
module _ (k : Kind) (a v : ℕ) (value : k.is_value a ≡ true) where
  joined_at_most : Lawful k → Fits k v k.passage_ceiling → k.joined a v ≤ a + 1000000
  joined_at_most laws fits = omega (arith, laws.bounded a v value fits.value, fits.within, laws.passage_limit)

  joined_at_least : Lawful k → Fits k v k.passage_ceiling → a ≤ k.joined a v
  joined_at_least laws fits = omega (arith, laws.zero_right a value, laws.mono_right 0 v a laws.zero_value fits.value value (omega arith))

  joins_within : (c : ℕ) → Fits k v c → c ≤ 1000000000 → a ≤ 257000000 → Joined k a v
  joins_within c fits ceiling small = joins_there k a v value fits.value (omega (arith, fits.within))

record Under (c : ℕ) (r : Record) : Type 0 where
  leading : r.leading ≤ c
  second : r.second ≤ c

under_more : (c d : ℕ) (r : Record) → c ≤ d → Under c r → Under d r
under_more c d r le u = omega arith

abbrev Trailed : List (Option ℕ) → Record → Type 0
Trailed bests r = Under (1000000 * trail bests r.second) r

abbrev AllTrailed : State → Type 0
AllTrailed s = (k : ℕ) → k < length s.records → Trailed s.bests (record_at s k)

module _ (task : Task) (fair : Fair task) where
  child_under : (c : ℕ) (r : Record) → Valid task fair r → (parent n : ℕ) → n < length task.building.passages → Under c r → Under (c + 1000000) (child_along task parent r n)
  child_under c r v parent n inside u = record {
    leading = omega (arith, u.leading, joined_at_most task.building.leading _ _ v.lead fair.leading_laws (fair.leading_fits n inside));
    second = omega (arith, u.second, joined_at_most task.building.second _ _ v.second fair.second_laws (fair.second_fits n inside));
  }

  estimates_join : (r : Record) → Valid task fair r → Under 257000000 r → EstimatesJoin task r
  estimates_join r v u = record {
    leading = joins_within task.building.leading _ _ v.lead _ (fair.leading_fair.fits r.place v.place) fair.leading_laws.forecast_limit u.leading;
    second = joins_within task.building.second _ _ v.second _ (fair.second_fair.fits r.place v.place) fair.second_laws.forecast_limit u.second;
  }

  child_joins : (r : Record) → Valid task fair r → Under 256000000 r → (n : ℕ) → n < length task.building.passages → ChildJoins task r n
  child_joins r v u n inside = record {
    leading = joins_within task.building.leading _ _ v.lead _ (fair.leading_fits n inside) (omega (arith, fair.leading_laws.passage_limit)) (omega (arith, u.leading));
    second = joins_within task.building.second _ _ v.second _ (fair.second_fits n inside) (omega (arith, fair.second_laws.passage_limit)) (omega (arith, u.second));
    estimates = λ parent. estimates_join (child_along task parent r n) (child_valid task fair r v parent n inside) (child_under 256000000 r v parent n inside u);
  }

  module _ (s : State) (g : Goes task fair s) (trailed : AllTrailed s) where
    -- a trail has at most 256 places, since no building has more
    small : (k : ℕ) → k < length s.records → Under 256000000 (record_at s k)
    small k inside =
        let long = count_by-le-length (λ (o : Option ℕ). at_most o (record_at s k).second) s.bests in
        under_more _ _ (record_at s k) (omega (arith, long, g.tied.table.long, fair.few_places)) (trailed k inside)

    step_joins : StepJoins task s
    step_joins = record {
      estimates = λ k inside. estimates_join (record_at s k) (g.tied.valid k inside) (under_more 256000000 _ (record_at s k) (omega arith) (small k inside));
      children = λ k n stored_k inside. child_joins (record_at s k) (g.tied.valid k stored_k) (small k stored_k) n inside;
    }

    module _ (e : Entry) (es : List Entry) (first : s.waiting ≡ e ∷ es) where
      valid_now : Valid task fair (seen s e)
      valid_now = g.tied.valid e.record (stored_now task fair s g e es first)

      module _ (of_use : useless task s.bests (seen s e) ≡ false) where
        at_place : (seen s e).place < length s.bests
        at_place = omega (arith, g.tied.table.long, valid_now.place)

        greater : at_most (best_at s.bests (seen s e).place) (seen s e).second ≡ false
        greater = (or_parts _ _ of_use).0

        old_trailed : (k : ℕ) → k < length s.records → Trailed (bests_then s e) (record_at s k)
        old_trailed k inside = under_more _ _ (record_at s k) (omega (arith, trail_kept s.bests (seen s e).place (seen s e).second at_place greater (record_at s k).second)) (trailed k inside)

        child_trailed : (n : ℕ) → n < length task.building.passages → Trailed (bests_then s e) (child_along task e.record (seen s e) n)
        child_trailed n inside = under_more _ _ (child_along task e.record (seen s e) n)
            (omega (arith, trail_longer s.bests (seen s e).place (seen s e).second at_place greater, trail_more (bests_then s e) (seen s e).second (child_along task e.record (seen s e) n).second no_less))
            (child_under _ (seen s e) valid_now e.record n inside (trailed e.record (stored_now task fair s g e es first)))
          where
            no_less : (seen s e).second ≤ (child_along task e.record (seen s e) n).second
            no_less = joined_at_least task.building.second _ _ valid_now.second fair.second_laws (fair.second_fits n inside)

        kid_trailed : (i : ℕ) → i < length (kids task s e) → Trailed (bests_then s e) (get_or (kids task s e) i no_record)
        kid_trailed i inside = let found = each_kid task s e i inside in subst (Trailed (bests_then s e)) (sym found.is) (child_trailed found.by found.inside)

      trailed_cases : Cases task AllTrailed s e es
      trailed_cases = record {
        dropped = λ no_use. trailed;
        shown = λ of_use at_goal. old_trailed of_use;
        opened = λ of_use elsewhere enough. each_more (Trailed (bests_then s e)) s.records (kids task s e) (old_trailed of_use) (kid_trailed of_use);
      }

  trailed_after : (n : ℕ) → AllTrailed (after task n)
  trailed_after = always task AllTrailed (only_first (λ k. Trailed (begun task).bests (record_at (begun task) k)) (omega arith)) (λ n. trailed_cases (after task n) (goes_after task fair n))

pub join_theorem_lem : JoinTheorem
join_theorem_lem task fair n = step_joins task fair (after task n) (goes_after task fair n) (trailed_after task fair n)
