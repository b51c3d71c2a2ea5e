-- Where the parts of a survey stand in its bytes, numbers with their low byte first. Assumes nothing.
--   two bs i, four bs i      the number in two, in four bytes from byte i
--   layout_of bs             what the header says: places, passages and the two letters
--   end_of_tables bs         where the two tables end and the labels begin
--   passage_in bs n          the passage with the number n
--   label_start bs p         where the label of p has to begin: where the one before it ended
--   label_at bs p            the bytes of the label of p
use Rattle.std.specs.Prelude.{ℕ, zero, suc, ◌+◌, ◌*◌, List, take, drop, slice_index}
use Rattle.survey.specs.declared.layout.Layout.{Layout}
use Rattle.survey.specs.declared.passage.Passage.{Passage}

abbrev pub byte : List ℕ → ℕ → ℕ
byte bs i = slice_index bs i

abbrev pub two : List ℕ → ℕ → ℕ
two bs i = byte bs i + byte bs (i + 1) * 256

abbrev pub four : List ℕ → ℕ → ℕ
four bs i = byte bs i + byte bs (i + 1) * 256 + byte bs (i + 2) * 65536 + byte bs (i + 3) * 16777216

abbrev pub places : List ℕ → ℕ
places bs = two bs 2

abbrev pub passages : List ℕ → ℕ
passages bs = two bs 4

abbrev pub layout_of : List ℕ → Layout
layout_of bs = record { places = places bs; passages = passages bs; leading = byte bs 6; second = byte bs 7 }

abbrev pub end_of_tables : List ℕ → ℕ
end_of_tables bs = 8 + 4 * places bs + 12 * passages bs

abbrev pub passage_start : List ℕ → ℕ → ℕ
passage_start bs n = 8 + 4 * places bs + 12 * n

abbrev pub passage_in : List ℕ → ℕ → Passage
passage_in bs n = record {
  from = two bs (passage_start bs n);
  to = two bs (passage_start bs n + 2);
  leading = four bs (passage_start bs n + 4);
  second = four bs (passage_start bs n + 8);
}

abbrev pub label_offset : List ℕ → ℕ → ℕ
label_offset bs p = two bs (8 + 4 * p)

abbrev pub label_length : List ℕ → ℕ → ℕ
label_length bs p = two bs (8 + 4 * p + 2)

abbrev pub label_end : List ℕ → ℕ → ℕ
label_end bs p = label_offset bs p + label_length bs p

abbrev pub label_start : List ℕ → ℕ → ℕ
label_start bs zero = end_of_tables bs
label_start bs (suc p) = label_end bs p

abbrev pub label_at : List ℕ → ℕ → List ℕ
label_at bs p = take (label_length bs p) (drop (label_offset bs p) bs)
