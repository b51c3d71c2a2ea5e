use Rattle.std.proofs.Common.{ap, ◌∙◌, arith}
use Rattle.survey.specs.declared.layout.Layout.{Layout}
use Rattle.survey.specs.File.{passages}
use Rattle.survey.specs.Faults.{read_refusal}
use Rattle.survey.specs.Reading.{passage_questions}
use Rattle.survey.proofs.Asked.{exits, refused_by, passed, stopped, each_passed, each_stopped}
use Rattle.survey.proofs.check.Tables.check_passages.Goals as goal

pub returns-in_err-check_passage : goal.returns-in_err-check_passage
returns-in_err-check_passage c =
    let bs = c.args.self.now.bytes.now in
    let many = ap (λ (l : Layout). l.passages) c.args.self.now.header in
    let no_here = stopped _ tt _ c.in_err-check_passage.ensures in
    exits read_refusal _ _ c.from_residual.ensures.1 ∙
    refused_by _ tt _ (each_stopped (passages bs) c.loop-number.number (passage_questions bs) (omega arith) c.loop-number.invariant _ no_here)

pub loop-number-preserved : goal.loop-number-preserved
loop-number-preserved c =
    let bs = c.args.self.now.bytes.now in
    let many = ap (λ (l : Layout). l.passages) c.args.self.now.header in
    let none_here = (passed _ tt tt c.in_ok-check_passage.ensures).0 in
    each_passed (passages bs) c.loop-number.number (passage_questions bs) (omega arith) c.loop-number.invariant none_here
