-- The questions of the reader part by part: header, passages, labels, end. Assumes nothing.
use Rattle.std.proofs.Common.{◌≡◌, ℕ, Bool, cond, eqb, List, ◌++◌, length, Some, None, ap, ◌∙◌}
use Rattle.survey.specs.declared.refusal.Refusal.{Refusal}
use Rattle.survey.specs.File.{places, passages, label_start}
use Rattle.survey.specs.Questions.{Question, first_no, each}
use Rattle.survey.specs.Reading.{header_questions, passage_questions, label_questions, end_questions, survey_questions}
use Rattle.survey.proofs.Asked.{first_after, first_here}

abbrev Passing : List ℕ → List Question
Passing bs = each (passages bs) (passage_questions bs)

abbrev Naming : List ℕ → List Question
Naming bs = each (places bs) (label_questions bs)

module _ (bs : List ℕ) (header : first_no (header_questions bs) ≡ None) where
  pub by_passages : (r : Refusal) → first_no (Passing bs) ≡ Some r → first_no (survey_questions bs) ≡ Some r
  by_passages r e = first_after (header_questions bs) (Passing bs ++ (Naming bs ++ end_questions bs)) header ∙ first_here (Passing bs) (Naming bs ++ end_questions bs) r e

  module _ (passing : first_no (Passing bs) ≡ None) where
    past_passages : first_no (survey_questions bs) ≡ first_no (Naming bs ++ end_questions bs)
    past_passages = first_after (header_questions bs) (Passing bs ++ (Naming bs ++ end_questions bs)) header ∙ first_after (Passing bs) (Naming bs ++ end_questions bs) passing

    pub by_labels : (r : Refusal) → first_no (Naming bs) ≡ Some r → first_no (survey_questions bs) ≡ Some r
    by_labels r e = past_passages ∙ first_here (Naming bs) (end_questions bs) r e

    pub by_end : first_no (Naming bs) ≡ None → (whole : Bool) → eqb (label_start bs (places bs)) (length bs) ≡ whole → first_no (survey_questions bs) ≡ cond whole None (Some (record { number = 8; spot = 0 }))
    by_end e whole is = past_passages ∙ first_after (Naming bs) (end_questions bs) e ∙ ap (λ b. cond b None (Some (record { number = 8; spot = 0 }))) is
