use Rattle.std.proofs.Common.{length}
use Rattle.plan.specs.Views.{passages_in}
use Rattle.plan.proofs.Kids.{Counting, to_go}
use Rattle.plan.proofs.parent.Parent.count_children.Given as goal

abbrev pub invariant-loop-at : goal.invariant-loop-at
invariant-loop-at g l = Counting l.self l.count l.at

abbrev pub decreases-loop-at : goal.decreases-loop-at
decreases-loop-at g l = to_go (length (passages_in l.self.table.now)) l.at
