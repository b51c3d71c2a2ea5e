-- The task that an opening asks for, once its request has as many forecasts as the table has places. Assumes nothing.
--   task_asked k m a   the task that a asks for, in the kinds k and m
use Rattle.costs.specs.Kinds.{Kind}
use Rattle.plan.specs.declared.listed.ListedRequest.{ListedRequest}
use Rattle.plan.specs.Rules.{Task}
use Rattle.plan.specs.Requests.{requested}
use Rattle.plan.specs.Views.{building_in}

abbrev pub task_asked : Kind → Kind → ListedRequest → Task
task_asked k m a = requested a.request (building_in k m a.table.now)
