-- What a checked survey shows. Assumes nothing.
--   file s            the bytes that s is a view of
--   Reads bs r        by r, bs is a survey, or refused by the first "no"
--   Nowhere bs l n    no place below n has the label l
--   Lowest bs l r     r is the lowest place with the label l, or none
use Rattle.std.specs.Prelude.{◌≡◌, ℕ, ◌<◌, List, Option, Result, MatchOption, IfOk, OnOk, ◌≢◌}
use Rattle.survey.specs.Faults.{read_refusal}
use Rattle.survey.specs.File.{places, label_at}
use Rattle.survey.specs.Questions.{told_of}
use Rattle.survey.specs.Reading.{checked, WellFormed}
use Rattle.survey.specs.declared.fault.ReadFault.{ReadFault}
use Rattle.survey.specs.declared.view.Survey.{Survey}

abbrev pub file : Survey → List ℕ
file s = s.bytes.now

pub record Reads (bs : List ℕ) (r : Result Survey ReadFault) : Type 0 where
  pub cases : told_of (λ s. s.layout) read_refusal r ≡ checked bs
  pub same : IfOk r (λ s. file s ≡ bs)
  pub formed : OnOk r (WellFormed bs)

abbrev pub Nowhere : List ℕ → List ℕ → ℕ → Type 0
Nowhere bs l n = (q : ℕ) → q < n → label_at bs q ≢ l

abbrev pub Lowest : List ℕ → List ℕ → Option ℕ → Type 0
Lowest bs l r = MatchOption r (Nowhere bs l (places bs)) (λ p. (p < places bs) × (label_at bs p ≡ l) × Nowhere bs l p)
