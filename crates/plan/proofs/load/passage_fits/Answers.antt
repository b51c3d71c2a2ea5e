use Rattle.std.proofs.Common.{arith}
use Rattle.survey.specs.View.{file}
use Rattle.plan.proofs.Fairness.{loaded_passage}
use Rattle.plan.proofs.load.passage_fits.Goals as goal

pub returns : goal.returns
returns g c = grind (arith, loaded_passage g.A.CostKind.kind g.B.CostKind.kind (file c.args.survey.now) c.args.number)
