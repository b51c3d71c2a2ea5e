use Rattle.std.proofs.Common.{◌≡◌, ◌-◌}
use Rattle.survey.specs.File.{passages}
use Rattle.survey.specs.Questions.{first_no, each, each_from}
use Rattle.survey.specs.Reading.{passage_questions}
use Rattle.survey.proofs.check.Tables.check_passages.Given as goal

-- what is left decides
abbrev pub invariant-loop-number : goal.invariant-loop-number
invariant-loop-number l =
    let bs = l.self.bytes.now in
    first_no (each_from l.number (passages bs - l.number) (passage_questions bs)) ≡ first_no (each (passages bs) (passage_questions bs))
