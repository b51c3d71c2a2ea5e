-- The legs of a choice, and what it means that they are a way. Assumes nothing.
--   legs_of s n           the legs to the record n, by climbing from parent to parent
--   choice_legs s i       the legs of the choice i
--   Running b g h ls      each leg has the place that its passage reaches, and the totals g and h joined up to there
--   WayWith b s t x ls    the legs are a way from s to t with the totals x, and their running totals are right
use Rattle.std.specs.Prelude.{◌≡◌, ℕ, zero, suc, List, [], ◌∷◌, ◌++◌, map, get_or, Some, None, Option, slice_index, slice_index_or}
use Rattle.plan.specs.declared.leg.Leg.{Leg}
use Rattle.plan.specs.declared.record.Record.{Record}
use Rattle.plan.specs.Ways.{Building, Pair, passage, Leads, totals}
use Rattle.plan.specs.Rules.{State, no_record}

abbrev pub leg_of : Record → Leg
leg_of r = record { passage = r.passage; place = r.place; leading = r.leading; second = r.second }

abbrev pub up_from : Option ℕ → (ℕ → List Leg) → Leg → List Leg
up_from None up leg = []
up_from (Some parent) up leg = up parent ++ leg ∷ []

-- at most k legs; parents have lower numbers, so that n are enough for the record n
abbrev pub climb : ℕ → List Record → ℕ → List Leg
climb zero rs n = []
climb (suc k) rs n = up_from (get_or rs n no_record).parent (climb k rs) (leg_of (slice_index_or rs n no_record))

abbrev pub legs_of : State → ℕ → List Leg
legs_of s n = climb n s.records n

abbrev pub choice_legs : State → ℕ → List Leg
choice_legs s i = legs_of s (slice_index s.choices i)

abbrev pub passages_of : List Leg → List ℕ
passages_of ls = map (λ (l : Leg). l.passage) ls

abbrev pub Running : Building → ℕ → ℕ → List Leg → Type 0
Running b g h [] = Unit {0}
Running b g h (l ∷ ls) =
    (l.place ≡ (passage b l.passage).to) × (l.leading ≡ b.leading.joined g (passage b l.passage).leading) × (l.second ≡ b.second.joined h (passage b l.passage).second) ×
    Running b l.leading l.second ls

pub record WayWith (b : Building) (s t : ℕ) (x : Pair) (ls : List Leg) : Type 0 where
  pub leads : Leads b s t (passages_of ls)
  pub costs : totals b (passages_of ls) ≡ x
  pub running : Running b 0 0 ls
