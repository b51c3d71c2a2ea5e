use Rattle.plan.proofs.Frontiers.{search_theorem_lem}
use Rattle.plan.proofs.theorem.search_theorem.Goals as goal

pub returns : goal.returns
returns c = search_theorem_lem
