use Rattle.std.proofs.Common.{ℕ, ◌≤◌, List, length, subst, rules}
use Rattle.std.proofs.lemmas.Result.{err_from_is_err_and}
use Rattle.ways.specs.Text.{Grown, Lacks}
use Rattle.ways.proofs.Jobs.{same_description, job_accepted}
use Rattle.ways.proofs.job.describe.Goals as goal

pub returns-in_err-add_to : goal.returns-in_err-add_to
returns-in_err-add_to c =
    let input = c.args.input.now in
    let long : 4 ≤ length input = search rules in
    let same = same_description input long _ _ _ c.in_ok-try_from.ensures.same c.from_le_bytes.ensures c.from_le_bytes-2.ensures in
    let fault = err_from_is_err_and c.from_residual-in_err-add_to.result c.from_residual-in_err-add_to.ensures.1 in
    rw (fault.1, fault.2) (record {
      by = job_accepted input long _ c.in_ok-try_from.ensures.cases;
      memory = λ _. subst (λ (l : List ℕ). Lacks c.args.text l) same c.in_err-add_to.ensures;
    })

pub returns : goal.returns
returns c =
    let input = c.args.input.now in
    let long : 4 ≤ length input = search rules in
    let same = same_description input long _ _ _ c.in_ok-try_from.ensures.same c.from_le_bytes.ensures c.from_le_bytes-2.ensures in
    record {
      accepted = job_accepted input long _ c.in_ok-try_from.ensures.cases;
      grown = subst (λ (l : List ℕ). Grown c.args.text c.add_to.new.text l) same c.in_ok-add_to.ensures;
    }
