-- The text that describes a hotel. Assumes nothing.
--   count_lines bs           how many places and passages, and the two letters
--   place_line word bs p     a line with a word, a place and its label
--   place_lines bs           such a line for each place
--   repeater_lines bs p      what a repeater shows for the place, with its edges
--   description_of bs s g    all of these, for the survey bs, a start and a goal
--   description input        the same, for what the input holds
use Rattle.std.specs.Prelude.{ℕ, cond, List, [], ◌∷◌, ◌++◌, map, codes, decimal, nat_lt}
use Rattle.std.specs.List.{concat, range_with_len}
use Rattle.survey.specs.File.{byte, places, passages, label_at}
use Rattle.survey.specs.Lines.{line_one, line_two}
use Rattle.ways.specs.Input.{survey_of, start_of, goal_of}
use Rattle.ways.specs.Text.{letter_text}

abbrev pub newline : List ℕ
newline = 10 ∷ []

abbrev pub count_lines : List ℕ → List ℕ
count_lines bs = concat (
    codes "places " ∷ decimal (places bs) ∷ newline ∷
    codes "passages " ∷ decimal (passages bs) ∷ newline ∷
    codes "letters " ∷ letter_text (byte bs 6) ∷ codes " " ∷ letter_text (byte bs 7) ∷ newline ∷ [])

abbrev pub label_shown : List ℕ → ℕ → List ℕ
label_shown bs p = cond (nat_lt p (places bs)) (label_at bs p) (codes "no such place")

abbrev pub place_line : List ℕ → List ℕ → ℕ → List ℕ
place_line word bs p = concat (word ∷ decimal p ∷ codes " " ∷ label_shown bs p ∷ newline ∷ [])

abbrev pub place_lines : List ℕ → List ℕ
place_lines bs = concat (map (place_line (codes "place ") bs) (range_with_len 0 (places bs)))

abbrev pub repeater_lines : List ℕ → ℕ → List ℕ
repeater_lines bs p = cond (nat_lt p (places bs)) (concat (codes "|" ∷ line_one bs p ∷ codes "|" ∷ newline ∷ codes "|" ∷ line_two 0 ∷ codes "|" ∷ newline ∷ [])) []

abbrev pub description_of : List ℕ → ℕ → ℕ → List ℕ
description_of bs start goal =
    count_lines bs ++ (place_lines bs ++ (place_line (codes "start ") bs start ++ (place_line (codes "goal ") bs goal ++ repeater_lines bs goal)))

abbrev pub description : List ℕ → List ℕ
description input = description_of (survey_of input) (start_of input) (goal_of input)
