-- The text of the repeater lines. Assumes nothing.
use Rattle.std.specs.Prelude.{ℕ, ◌-◌, ◌/◌, List, ◌++◌, length, replicate, codes, decimal}
use Rattle.survey.specs.File.{label_at}

-- a text filled with spaces to 16 bytes
abbrev pub padded : List ℕ → List ℕ
padded text = text ++ replicate (16 - length text) 0x20

abbrev pub line_one : List ℕ → ℕ → List ℕ
line_one bs p = padded (label_at bs p)

-- whole minutes, rounded down
abbrev pub line_two : ℕ → List ℕ
line_two seconds = padded (decimal (seconds / 60) ++ codes " min")
