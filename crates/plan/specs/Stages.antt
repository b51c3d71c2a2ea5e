-- A plan in the words of the rules. Assumes nothing.
--   building_held p    the building of the plan p
--   task_between p e   the task of the plan p between the ends e
--   state_of p         the state of its search
--   stage p            what it is ready for
use Rattle.costs.specs.declared.kind.CostKind as kinds
use Rattle.costs.specs.declared.open_list.OpenList as lists
use Rattle.plan.specs.declared.state.Ends.{Ends}
use Rattle.plan.specs.declared.state.Plan.{Plan}
use Rattle.plan.specs.Ways.{Building}
use Rattle.plan.specs.Rules.{Task, State}
use Rattle.plan.specs.Views.{Stage, building_in, task_in, state_in, stage_at}

module _ {A B Q : Type 0} {a : kinds.Ghosts A} {b : kinds.Ghosts B} {q : lists.Ghosts Q} where
  abbrev pub building_held : Plan A B Q a b q → Building
  building_held p = building_in a.kind b.kind p.table

  abbrev pub task_between : Plan A B Q a b q → Ends → Task
  task_between p ends = task_in a.kind b.kind p.table ends (q.slots p.list)

  abbrev pub state_of : Plan A B Q a b q → State
  state_of p = state_in p.table p.book (q.bag p.list)

  abbrev pub stage : Plan A B Q a b q → Stage
  stage p = stage_at p.phase (building_held p) (task_between p) (state_of p)
