use Rattle.std.proofs.Common.{◌≡◌, ◌-◌}
use Rattle.survey.specs.File.{label_start, places}
use Rattle.survey.specs.Questions.{first_no, each, each_from}
use Rattle.survey.specs.Reading.{label_questions}
use Rattle.survey.proofs.check.Tables.check_labels.Given as goal

-- what is left decides
abbrev pub invariant-loop-place : goal.invariant-loop-place
invariant-loop-place l =
    let bs = l.self.bytes.now in
    record {
      end : l.end ≡ label_start bs l.place;
      left : first_no (each_from l.place (places bs - l.place) (label_questions bs)) ≡ first_no (each (places bs) (label_questions bs));
    }
