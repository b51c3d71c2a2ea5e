use Rattle.std.proofs.Common.{is_some, refl, sym, ap, ◌∙◌, arith}
use Rattle.plan.proofs.Kids.{adding_none, add_useful, add_useless, used_left}
use Rattle.plan.proofs.parent.Parent.add_children.Goals as goal
use Rattle.plan.proofs.parent.Parent.add_children.Goals.{in-Some-child_by, in_default-child_by}

pub loop-at-init : goal.loop-at-init
loop-at-init g c = (adding_none c.args.self.now _ _ _ c.place-at.ensures, refl)

-- found with `used_left` named, but not with half the limits (`rt check --margin`)
pub add_to-requires-clause-room : goal.add_to-requires-clause-room
add_to-requires-clause-room g c =
    let adding = rw c.in-Some.is at c.loop-at.invariant.0 in
    omega (arith, used_left c.args.self.now _ _ _ _ _ adding _ (sym c.child_by.ensures ∙ c.in-Some-child_by.is), c.requires.records)

pub loop-at-preserved : goal.loop-at-preserved
loop-at-preserved g c =
    let adding = rw c.in-Some.is at c.loop-at.invariant.0 in
    elim c.match-child_by.branch [
      | in-Some-child_by w ↦ (
        rw c.link-at.ensures (add_useful c.args.self.now _ _ _ _ _ adding _ (sym c.child_by.ensures ∙ w.in-Some-child_by.is) _ (w.book-is ∙ w.add_to.ensures.book) _ (ap g.Q.OpenList.bag w.list-is ∙ w.add_to.ensures.bag)),
        grind arith,
      )
      | in_default-child_by w ↦ (
        rw (w.book-is, w.list-is, c.link-at.ensures) (add_useless c.args.self.now _ _ _ _ _ adding (sym (ap is_some (sym c.child_by.ensures ∙ w.in_default-child_by.is)))),
        grind arith,
      )
    ]
