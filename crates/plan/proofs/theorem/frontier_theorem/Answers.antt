use Rattle.plan.proofs.Frontiers.{frontier_theorem_lem}
use Rattle.plan.proofs.theorem.frontier_theorem.Goals as goal

pub returns : goal.returns
returns c = frontier_theorem_lem
