-- What the search promises, in the words of ways, totals and the frontier. Assumes nothing.
--   Complete task s       once nothing waits in s, every way costs at least as much as some choice
--   Searched task s       what holds after every number of steps
--   Dominated b s t xs    every way from s to t costs at least as much as some pair of xs
--   Finished task s       what holds once nothing waits
use Rattle.std.specs.Prelude.{◌≡◌, ℕ, ◌+◌, ◌<◌, ◌≤◌, List, [], length, slice_index}
use Rattle.plan.specs.Ways.{Building, Pair, Leads, totals, NoGreater, Among, FirstOnes, Frontier}
use Rattle.plan.specs.Rules.{Task, State, record_at, pair_of, choice_pairs, accepted, after}
use Rattle.plan.specs.Legs.{legs_of, WayWith}
use Rattle.plan.specs.Joins.{StepJoins}
use Rattle.plan.specs.Openings.{Fair}

-- once nothing waits, every way costs at least as much, in both totals, as some choice shown
abbrev pub Complete : Task → State → Type 0
Complete task s =
    s.waiting ≡ [] → (w : List ℕ) → Leads task.building task.start task.goal w → (x : Pair) × Among x (choice_pairs s) × NoGreater x (totals task.building w)

pub record Searched (task : Task) (s : State) : Type 0 where
  pub shown : FirstOnes task.building task.start task.goal (choice_pairs s)
  pub complete : Complete task s
  -- the legs of each choice are a way from start to goal with exactly its totals
  pub legs : (i : ℕ) → i < length s.choices → WayWith task.building task.start task.goal (pair_of (record_at s (slice_index s.choices i))) (legs_of s (slice_index s.choices i))
  -- each accepted step took one entry, and each entry is one record's
  pub counts : accepted s + length s.waiting ≡ length s.records
  -- so that there are at most as many accepted steps
  pub room : length s.records ≤ task.slots

-- for every two kinds, building, ends, slots and forecasts that pass the questions, after every number of steps
abbrev pub SearchTheorem : Type 0
SearchTheorem = (task : Task) → Fair task → (n : ℕ) → Searched task (after task n)

-- every way from s to t costs at least as much, in both totals, as some pair of the list
abbrev pub Dominated : Building → ℕ → ℕ → List Pair → Type 0
Dominated b s t xs = (w : List ℕ) → Leads b s t w → (x : Pair) × Among x xs × NoGreater x (totals b w)

-- no way leads from s to t
abbrev pub NoWay : Building → ℕ → ℕ → Type 0
NoWay b s t = (w : List ℕ) → Leads b s t w → ⊥

-- what holds once nothing waits
pub record Finished (task : Task) (s : State) : Type 0 where
  pub dominated : Dominated task.building task.start task.goal (choice_pairs s)
  pub frontier : Frontier task.building task.start task.goal (choice_pairs s)
  -- there is no choice exactly if there is no way
  pub none : (s.choices ≡ [] → NoWay task.building task.start task.goal) × (NoWay task.building task.start task.goal → s.choices ≡ [])

-- and so for every fair task, after every number of steps that leaves nothing waiting
abbrev pub FrontierTheorem : Type 0
FrontierTheorem = (task : Task) → Fair task → (n : ℕ) → (after task n).waiting ≡ [] → Finished task (after task n)

-- from an opening on, every join that a step makes exists
abbrev pub JoinTheorem : Type 0
JoinTheorem = (task : Task) → Fair task → (n : ℕ) → StepJoins task (after task n)
