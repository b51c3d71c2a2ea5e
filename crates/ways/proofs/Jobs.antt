-- What the questions of a job come to. Assumes nothing.
use Rattle.std.proofs.Common.{◌≡◌, ℕ, ◌-◌, ◌≤◌, Bool, cond, List, length, take, drop, Some, None, Ok, sym, ap, ◌∙◌}
use Rattle.std.proofs.lemmas.List.{take_rest}
use Rattle.std.proofs.lemmas.Bool.{le-leb}
use Rattle.survey.specs.declared.layout.Layout.{Layout}
use Rattle.survey.specs.File.{layout_of}
use Rattle.survey.specs.Questions.{first_no}
use Rattle.survey.specs.Reading.{survey_questions, checked}
use Rattle.survey.proofs.Asked.{passed}
use Rattle.ways.specs.Description.{description_of, description}
use Rattle.ways.specs.Input.{job_questions, start_of, goal_of, survey_of}

module _ (input : List ℕ) (long : 4 ≤ length input) where
  -- `&input[4..]` as the checker reads it
  abbrev rest : List ℕ
  rest = take (length input - 4) (drop 4 input)

  rest_is : rest ≡ survey_of input
  rest_is = take_rest input 4

  pub same_description : (bs : List ℕ) (start goal : ℕ) → bs ≡ rest → start ≡ start_of input → goal ≡ goal_of input → description_of bs start goal ≡ description input
  same_description bs start goal bytes from to = (λ i. description_of (bytes i) (from i) (to i)) ∙ ap (λ (l : List ℕ). description_of l (start_of input) (goal_of input)) rest_is

  pub job_accepted : (l : Layout) → Ok l ≡ checked rest → first_no (job_questions input) ≡ None
  job_accepted l e =
      ap (λ (b : Bool). cond b (first_no (survey_questions (survey_of input))) (Some (record { number = 25; spot = 0 }))) (le-leb 4 (length input) long) ∙
      ap (λ (l : List ℕ). first_no (survey_questions l)) (sym rest_is) ∙ (passed _ (layout_of rest) l e).0
