-- The number and the spot of each fault of the reader. Assumes nothing.
use Rattle.survey.specs.declared.refusal.Refusal.{Refusal}
use Rattle.survey.specs.declared.fault.ReadFault.{ReadFault}
use Rattle.survey.specs.declared.fault.ReadFault.TheVariants.{Short, Mark, Counts, Tables, Ends, Label, Characters, Trailing, NoPlace}

abbrev pub read_refusal : ReadFault → Refusal
read_refusal Short = record { number = 1; spot = 0 }
read_refusal Mark = record { number = 2; spot = 0 }
read_refusal Counts = record { number = 3; spot = 0 }
read_refusal Tables = record { number = 4; spot = 0 }
read_refusal (Ends passage) = record { number = 5; spot = passage }
read_refusal (Label place) = record { number = 6; spot = place }
read_refusal (Characters place) = record { number = 7; spot = place }
read_refusal Trailing = record { number = 8; spot = 0 }
read_refusal NoPlace = record { number = 24; spot = 0 }
