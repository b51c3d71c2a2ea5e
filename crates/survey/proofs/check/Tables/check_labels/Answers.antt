use Rattle.std.proofs.Common.{◌≡◌, suc, ◌+◌, ◌<◌, ap, ◌∙◌, arith}
use Rattle.survey.specs.declared.layout.Layout.{Layout}
use Rattle.survey.specs.File.{places, label_start, label_end}
use Rattle.survey.specs.Faults.{read_refusal}
use Rattle.survey.specs.Reading.{label_questions}
use Rattle.survey.proofs.Asked.{exits, refused_by, passed, stopped, each_passed, each_stopped}
use Rattle.survey.proofs.check.Tables.check_labels.Goals as goal

pub returns-in_err-end : goal.returns-in_err-end
returns-in_err-end c =
    let bs = c.args.self.now.bytes.now in
    let many = ap (λ (l : Layout). l.places) c.args.self.now.header in
    let no_here = stopped _ (label_end bs c.loop-place.place) _ c.in_err-end.ensures in
    exits read_refusal _ _ c.from_residual.ensures.1 ∙
    refused_by _ _ _ (each_stopped (places bs) c.loop-place.place (label_questions bs) (omega arith) c.loop-place.invariant.left _ no_here)

pub loop-place-preserved : goal.loop-place-preserved
loop-place-preserved c =
    let bs = c.args.self.now.bytes.now in
    let many = ap (λ (l : Layout). l.places) c.args.self.now.header in
    let next : suc c.loop-place.place ≡ c.loop-place.place + 1 = omega arith in
    let below : c.loop-place.place < places bs = omega arith in
    let here = passed _ (label_end bs c.loop-place.place) _ c.in_ok-end.ensures in
    record {
      end = here.1 ∙ ap (label_start bs) next;
      left = each_passed (places bs) c.loop-place.place (label_questions bs) below c.loop-place.invariant.left here.0;
    }
