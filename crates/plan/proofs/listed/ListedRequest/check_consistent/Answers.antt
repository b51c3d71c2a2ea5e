use Rattle.std.proofs.Common.{rules}
use Rattle.plan.specs.Faults.{plan_refusal}
use Rattle.plan.proofs.Rows.{row_told}
use Rattle.plan.proofs.listed.ListedRequest.check_consistent.Goals as goal

pub returns : goal.returns
returns g c =
    row_told plan_refusal 18 _ _ _ _ _ c.passage_count-passages.ensures c.check_below.ensures c.map_err.ensures.cases (search rules) (search rules) (search rules)
