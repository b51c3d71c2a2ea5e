use Rattle.std.proofs.Common.{◌≡◌, length}
use Rattle.plan.specs.Views.{passages_in}
use Rattle.plan.proofs.Kids.{Adding, to_go}
use Rattle.plan.proofs.parent.Parent.add_children.Given as goal

abbrev pub invariant-loop-at : goal.invariant-loop-at
invariant-loop-at g l =
    Adding l.self l.initial.book (g.Q.OpenList.bag l.initial.list) l.book (g.Q.OpenList.bag l.list) l.at ×
    (g.Q.OpenList.slots l.list ≡ g.Q.OpenList.slots l.initial.list)

abbrev pub decreases-loop-at : goal.decreases-loop-at
decreases-loop-at g l = to_go (length (passages_in l.self.table.now)) l.at
