-- The refusal and the line of each fault of a job. Assumes nothing.
--   job_refusal f     number and spot of the refusal that f stands for; want of memory is none
--   layer_name f      the layer that refuses
--   fault_line f      the line that is printed
use Rattle.std.specs.Prelude.{ℕ, List, [], ◌∷◌, Some, None, codes, decimal, Option}
use Rattle.std.specs.List.{concat}
use Rattle.survey.specs.declared.refusal.Refusal.{Refusal}
use Rattle.survey.specs.Faults.{read_refusal}
use Rattle.ways.specs.declared.fault.JobFault.{JobFault}
use Rattle.ways.specs.declared.fault.JobFault.TheVariants.{Short, Reader, Memory}

abbrev pub job_refusal : JobFault → Option Refusal
job_refusal Short = Some (record { number = 25; spot = 0 })
job_refusal (Reader fault) = Some (read_refusal fault)
job_refusal Memory = None

abbrev pub layer_name : JobFault → List ℕ
layer_name Short = codes "program"
layer_name (Reader fault) = codes "reader"
layer_name Memory = codes "program"

abbrev pub refusal_line : List ℕ → Option Refusal → List ℕ
refusal_line layer None = codes "out of memory"
refusal_line layer (Some r) = concat (codes "refused " ∷ layer ∷ codes " " ∷ decimal r.number ∷ codes " " ∷ decimal r.spot ∷ [])

abbrev pub fault_line : JobFault → List ℕ
fault_line f = refusal_line (layer_name f) (job_refusal f)
