use Rattle.std.proofs.Common.{◌∙◌}
use Rattle.survey.proofs.Asked.{exits}
use Rattle.plan.specs.Faults.{plan_refusal}
use Rattle.plan.proofs.Opening.{ends_decide, forecasts_decide, goal_decides, leading_decides, agreeing_decides, all_listed, goal_there}
use Rattle.plan.proofs.check.check_task.Goals as goal

pub returns-in_err-check_ends : goal.returns-in_err-check_ends
returns-in_err-check_ends g c =
    exits plan_refusal _ _ c.from_residual.ensures.1 ∙ ends_decide g.A.CostKind.kind g.B.CostKind.kind c.args.table.now c.args.request.now _ c.in_err-check_ends.ensures

pub invariant_of-listed : goal.invariant_of-listed
invariant_of-listed g c = record {
  listed = all_listed g.A.CostKind.kind g.B.CostKind.kind c.args.table.now c.args.request.now c.in_ok-check_ends.ensures;
  goal = goal_there g.A.CostKind.kind g.B.CostKind.kind c.args.table.now c.args.request.now c.in_ok-check_ends.ensures;
}

pub returns-in_err-check_forecasts : goal.returns-in_err-check_forecasts
returns-in_err-check_forecasts g c =
    exits plan_refusal _ _ c.from_residual-in_err-check_forecasts.ensures.1 ∙ forecasts_decide g.A.CostKind.kind g.B.CostKind.kind c.args.table.now c.args.request.now c.in_ok-check_ends.ensures _ c.in_err-check_forecasts.ensures

pub returns-in_err-check_goal : goal.returns-in_err-check_goal
returns-in_err-check_goal g c =
    exits plan_refusal _ _ c.from_residual-in_err-check_goal.ensures.1 ∙
    goal_decides g.A.CostKind.kind g.B.CostKind.kind c.args.table.now c.args.request.now c.in_ok-check_ends.ensures c.in_ok-check_forecasts.ensures _ c.in_err-check_goal.ensures

pub returns-in_err-check_leading : goal.returns-in_err-check_leading
returns-in_err-check_leading g c =
    exits plan_refusal _ _ c.from_residual-in_err-check_leading.ensures.1 ∙
    leading_decides g.A.CostKind.kind g.B.CostKind.kind c.args.table.now c.args.request.now c.in_ok-check_ends.ensures c.in_ok-check_forecasts.ensures c.in_ok-check_goal.ensures _ (c.in_err-check_leading.ensures g.B.CostKind.kind)

pub returns : goal.returns
returns g c =
    c.check_consistent.ensures ∙
    agreeing_decides g.A.CostKind.kind g.B.CostKind.kind c.args.table.now c.args.request.now c.in_ok-check_ends.ensures c.in_ok-check_forecasts.ensures c.in_ok-check_goal.ensures (c.in_ok-check_leading.ensures g.B.CostKind.kind)
