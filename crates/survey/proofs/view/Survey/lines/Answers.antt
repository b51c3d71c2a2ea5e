use Rattle.std.proofs.Common.{◌<◌, length, ap, arith}
use Rattle.std.proofs.lemmas.Bool.{ltb-true}
use Rattle.survey.specs.File.{label_at, places}
use Rattle.survey.specs.Reading.{place_questions}
use Rattle.survey.proofs.Asked.{passed, none_yes}
use Rattle.survey.proofs.Formed.{well_formed}
use Rattle.survey.proofs.view.Survey.lines.Goals as goal

pub line_of-requires : goal.line_of-requires
line_of-requires c =
    let s = c.args.self.now in
    let here = passed _ (label_at s.bytes.now c.args.place) _ c.in_ok-label.ensures in
    let below : c.args.place < places s.bytes.now = ltb-true _ _ (none_yes (place_questions s.bytes.now c.args.place) here.0).0 in
    omega (arith, ap length here.1, (well_formed s.bytes.now s.accepted).short c.args.place below)
