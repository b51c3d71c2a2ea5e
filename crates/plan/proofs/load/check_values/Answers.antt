use Rattle.std.proofs.Common.{rules}
use Rattle.plan.specs.Faults.{build_refusal}
use Rattle.plan.proofs.Rows.{row_told}
use Rattle.plan.proofs.load.check_values.Goals as goal

pub returns : goal.returns
returns g c =
    row_told build_refusal 10 _ _ _ _ _ c.passages.ensures c.check_below.ensures c.map_err.ensures.cases (search rules) (search rules) (search rules)
