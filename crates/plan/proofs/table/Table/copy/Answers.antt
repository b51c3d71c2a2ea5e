use Rattle.std.proofs.Common.{◌≡◌, arith}
use Rattle.survey.specs.File.{passage_in}
use Rattle.survey.specs.View.{file}
use Rattle.plan.proofs.Loading.{pushed_more}
use Rattle.plan.proofs.table.Table.copy.Goals as goal

pub loop-number-preserved : goal.loop-number-preserved
loop-number-preserved c =
    let bs = file c.args.survey.now in
    let read : c.unwrap.result ≡ passage_in bs c.loop-number.number = grind arith in
    record {
      places = c.loop-number.invariant.places;
      passages = pushed_more bs c.loop-number.self _ c.loop-number.invariant.passages _ _ read c.push-in-loop-number.ensures;
    }
