-- The questions of the reader, in their order. Assumes nothing.
--   each_printable bs       every byte is from 0x20 to 0x7E
--   survey_questions bs     the questions 1 to 8: of the header, of each passage, of each label, of the end
--   checked bs              what the check of bs answers
--   WellFormed bs           what an accepted file is, in words
--   place_questions bs p    question 24, of each call that names a place
use Rattle.std.specs.Prelude.{◌≡◌, ℕ, ◌<◌, ◌≤◌, Bool, true, ◌&&◌, List, [], ◌∷◌, ◌++◌, length, Result, ◌==◌, nat_le, nat_lt}
use Rattle.std.specs.List.{list_all}
use Rattle.survey.specs.declared.layout.Layout.{Layout}
use Rattle.survey.specs.declared.refusal.Refusal.{Refusal}
use Rattle.survey.specs.Questions.{Question, ask, each, decided}
use Rattle.survey.specs.File.{byte, places, passages, layout_of, end_of_tables, passage_in, label_offset, label_length, label_start, label_end, label_at}

abbrev pub printable : ℕ → Bool
printable b = nat_le 0x20 b && nat_le b 0x7E

abbrev pub each_printable : List ℕ → Bool
each_printable bs = list_all printable bs

abbrev pub header_questions : List ℕ → List Question
header_questions bs =
    ask 1 0 (nat_le 8 (length bs)) ∷
    ask 2 0 (byte bs 0 == 0x46 && byte bs 1 == 0x01) ∷
    ask 3 0 (nat_le 1 (places bs) && (nat_le (places bs) 256 && nat_le (passages bs) 1024)) ∷
    ask 4 0 (nat_le (end_of_tables bs) (length bs)) ∷ []

abbrev pub passage_questions : List ℕ → ℕ → List Question
passage_questions bs n =
    ask 5 n (nat_lt (passage_in bs n).from (places bs) && nat_lt (passage_in bs n).to (places bs)) ∷ []

abbrev pub label_questions : List ℕ → ℕ → List Question
label_questions bs p =
    ask 6 p (label_offset bs p == label_start bs p && (nat_le 1 (label_length bs p) && (nat_le (label_length bs p) 16 && nat_le (label_end bs p) (length bs)))) ∷
    ask 7 p (each_printable (label_at bs p)) ∷ []

abbrev pub end_questions : List ℕ → List Question
end_questions bs = ask 8 0 (label_start bs (places bs) == length bs) ∷ []

abbrev pub survey_questions : List ℕ → List Question
survey_questions bs =
    header_questions bs ++ (each (passages bs) (passage_questions bs) ++ (each (places bs) (label_questions bs) ++ end_questions bs))

abbrev pub checked : List ℕ → Result Layout Refusal
checked bs = decided (survey_questions bs) (layout_of bs)

pub record WellFormed (bs : List ℕ) : Type 0 where
  pub some : 1 ≤ places bs
  pub few_places : places bs ≤ 256
  pub few_passages : passages bs ≤ 1024
  pub tables : end_of_tables bs ≤ length bs
  pub from_place : (n : ℕ) → n < passages bs → (passage_in bs n).from < places bs
  pub to_place : (n : ℕ) → n < passages bs → (passage_in bs n).to < places bs
  pub follows : (p : ℕ) → p < places bs → label_offset bs p ≡ label_start bs p
  pub named : (p : ℕ) → p < places bs → 1 ≤ length (label_at bs p)
  pub short : (p : ℕ) → p < places bs → length (label_at bs p) ≤ 16
  pub within : (p : ℕ) → p < places bs → label_end bs p ≤ length bs
  pub readable : (p : ℕ) → p < places bs → each_printable (label_at bs p) ≡ true
  pub whole : label_start bs (places bs) ≡ length bs

abbrev pub place_questions : List ℕ → ℕ → List Question
place_questions bs p = ask 24 0 (nat_lt p (places bs)) ∷ []
