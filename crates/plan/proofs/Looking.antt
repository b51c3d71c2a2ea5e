-- What a look_up reads is what the rules have. Assumes nothing.
use Rattle.std.proofs.Common.{◌≡◌, ℕ, ◌<◌, length, get_or, sym, subst}
use Rattle.costs.specs.declared.kind.CostKind as kinds
use Rattle.costs.specs.declared.open_list.OpenList as lists
use Rattle.plan.specs.declared.state.Ends.{Ends}
use Rattle.plan.specs.Openings.{Fair}
use Rattle.plan.specs.declared.state.Phase.TheVariants.{Opened}
use Rattle.plan.specs.declared.state.Plan.{Plan}
use Rattle.plan.specs.Rules.{Task, State, accepted}
use Rattle.plan.specs.Stages.{task_between, state_of}
use Rattle.plan.specs.Views.{Reached}
use Rattle.plan.proofs.Parents.{Bred, bred_after}
use Rattle.plan.proofs.Stepping.{reached, fair}

pub bred : (task : Task) (s : State) → Fair task → Reached task s → Bred task s
bred task s fair reached = subst (Bred task) (sym reached.is) (bred_after task fair (accepted s))

module _ {A B Q : Type 0} {a : kinds.Ghosts A} {b : kinds.Ghosts B} {l : lists.Ghosts Q} (p : Plan A B Q a b l) (ends : Ends) (phase : p.phase ≡ Opened ends) where
  -- the record of the choice i
  pub chosen_stored : (i : ℕ) → i < length p.book.choices.items → get_or p.book.choices.items i 0 < length p.book.records.items
  chosen_stored i inside = ((bred (task_between p ends) (state_of p) (fair p ends phase) (reached p ends phase)).at_goal i inside).stored
