-- What a job answers. Assumes nothing.
use Rattle.std.specs.Prelude.{◌≡◌, ℕ, List, None, Result, Vec, MatchResult}
use Rattle.survey.specs.Questions.{first_no}
use Rattle.ways.specs.declared.fault.JobFault.{JobFault}
use Rattle.ways.specs.Description.{description}
use Rattle.ways.specs.Fault.{job_refusal}
use Rattle.ways.specs.Input.{job_questions}
use Rattle.ways.specs.Text.{Grown, Lacks}

module _ {Z : Type 0} where
  -- the first "no" gives the fault, and memory is wanting only where the text has no room
  pub record Fails (input : List ℕ) (text : Vec ℕ Z) (fault : JobFault) : Type 0 where
    pub by : first_no (job_questions input) ≡ job_refusal fault
    pub memory : job_refusal fault ≡ None → Lacks text (description input)

  -- no question is answered "no", and t is the text with the description behind it
  pub record Describes (input : List ℕ) (text t : Vec ℕ Z) : Type 0 where
    pub accepted : first_no (job_questions input) ≡ None
    pub grown : Grown text t (description input)

  abbrev pub Answers : List ℕ → Vec ℕ Z → Result (Vec ℕ Z) JobFault → Type 0
  Answers input text r = MatchResult r (Describes input text) (Fails input text)
