use Rattle.std.proofs.Common.{is_some, ap, ◌∙◌, arith}
use Rattle.plan.proofs.Kids.{counting_none, count_small, count_useful, count_useless}
use Rattle.plan.proofs.parent.Parent.count_children.Goals as goal
use Rattle.plan.proofs.parent.Parent.count_children.Goals.{then-is_some, else-is_some}

-- found with `counting_none` named, but not with half the limits (`rt check --margin`)
pub loop-at-init : goal.loop-at-init
loop-at-init g c = counting_none c.args.self.now _ c.place-at.ensures

pub overflow_add-count : goal.overflow_add-count
overflow_add-count g c = omega (arith, count_small c.args.self.now)

pub loop-at-preserved : goal.loop-at-preserved
loop-at-preserved g c =
    let counting = rw c.in-Some.is at c.loop-at.invariant in
    elim c.if-is_some.branch [
      | then-is_some w ↦ rw (w.count-is, c.link-at.ensures) (count_useful c.args.self.now _ _ counting (w.if-is_some.ensures ∙ ap is_some c.child_by.ensures))
      | else-is_some w ↦ rw (w.count-is, c.link-at.ensures) (count_useless c.args.self.now _ _ counting (w.if-is_some.ensures ∙ ap is_some c.child_by.ensures))
    ]
