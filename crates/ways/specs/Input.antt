-- What the program reads: start and goal, two bytes each, and then a survey. Assumes nothing.
use Rattle.std.specs.Prelude.{ℕ, List, ◌∷◌, length, drop, nat_le}
use Rattle.survey.specs.File.{two}
use Rattle.survey.specs.Questions.{Question, ask}
use Rattle.survey.specs.Reading.{survey_questions}

abbrev pub start_of : List ℕ → ℕ
start_of input = two input 0

abbrev pub goal_of : List ℕ → ℕ
goal_of input = two input 2

abbrev pub survey_of : List ℕ → List ℕ
survey_of input = drop 4 input

-- the program's question, and then the reader's
abbrev pub job_questions : List ℕ → List Question
job_questions input = ask 25 0 (nat_le 4 (length input)) ∷ survey_questions (survey_of input)
