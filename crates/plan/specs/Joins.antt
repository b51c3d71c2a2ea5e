-- Which joins a step of the search makes, and that the program's join has a result for each. Assumes nothing.
--   Joined k a b          the program's join of a and b in the kind k gives what the rule gives
--   EstimatesJoin task r  the two joins of the estimates of the record r
--   ChildJoins task r n   the four joins of the child of r by the passage n: its totals and its estimates
--   StepJoins task s      all joins that a step on the state s can make, whichever record it looks at
use Rattle.std.specs.Prelude.{◌≡◌, ℕ, ◌<◌, length, Some, slice_index}
use Rattle.costs.specs.Kinds.{Kind, limited}
use Rattle.plan.specs.declared.record.Record.{Record}
use Rattle.plan.specs.Ways.{passage}
use Rattle.plan.specs.Rules.{Task, State, record_at, child_along}

abbrev pub Joined : Kind → ℕ → ℕ → Type 0
Joined k a b = limited k a b ≡ Some (k.joined a b)

pub record EstimatesJoin (task : Task) (r : Record) : Type 0 where
  pub leading : Joined task.building.leading r.leading (slice_index task.leading r.place)
  pub second : Joined task.building.second r.second (slice_index task.second r.place)

pub record ChildJoins (task : Task) (r : Record) (n : ℕ) : Type 0 where
  pub leading : Joined task.building.leading r.leading (passage task.building n).leading
  pub second : Joined task.building.second r.second (passage task.building n).second
  pub estimates : (parent : ℕ) → EstimatesJoin task (child_along task parent r n)

pub record StepJoins (task : Task) (s : State) : Type 0 where
  pub estimates : (k : ℕ) → k < length s.records → EstimatesJoin task (record_at s k)
  pub children : (k n : ℕ) → k < length s.records → n < length task.building.passages → ChildJoins task (record_at s k) n
