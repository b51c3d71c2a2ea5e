use Rattle.std.proofs.Common.{sym, refl, ◌∙◌, arith}
use Rattle.plan.proofs.Stepping.{low, fair, useless_read, below_slots, drops, shows}
use Rattle.plan.proofs.state.Plan.step.Goals as goal

pub record-found-requires : goal.record-found-requires
record-found-requires g c = (low c.args.self.now _ c.in-Opened.is _ c.in-Some.ensures).stored

pub blocks-requires-clause-place : goal.blocks-requires-clause-place
blocks-requires-clause-place g c = rw c.record-found.ensures (low c.args.self.now _ c.in-Opened.is _ c.in-Some.ensures).place

pub blocks-requires-clause-goal : goal.blocks-requires-clause-goal
blocks-requires-clause-goal g c = (fair c.args.self.now _ c.in-Opened.is).goal_place

pub overflow_add-self : goal.overflow_add-self
overflow_add-self g c = omega (arith, below_slots c.args.self.now _ c.in-Opened.is _ c.in-Some.ensures, (g.met.Q.OpenList.sound c.args.self.now.list).limit)

pub invariant_of-self : goal.invariant_of-self
invariant_of-self g c =
    assumption (drops c.args.self.now _ c.in-Opened.is _ c.in-Some.ensures _ c.take.ensures.bag c.take.ensures.slots _ c.record-found.ensures (sym c.blocks-2.ensures ∙ c.if-blocks.true))

pub returns-then-blocks : goal.returns-then-blocks
returns-then-blocks g c =
    (drops c.args.self.now _ c.in-Opened.is _ c.in-Some.ensures _ c.take.ensures.bag c.take.ensures.slots _ c.record-found.ensures (sym c.blocks-2.ensures ∙ c.if-blocks.true)).step _ _ _ _

pub set_best-requires : goal.set_best-requires
set_best-requires g c = (fair c.args.self.now _ c.in-Opened.is).goal_place

pub choose-requires : goal.choose-requires
choose-requires g c = omega (arith, below_slots c.args.self.now _ c.in-Opened.is _ c.in-Some.ensures, (g.met.Q.OpenList.sound c.args.self.now.list).limit)

pub invariant_of-self-then-found-goal : goal.invariant_of-self-then-found-goal
invariant_of-self-then-found-goal g c =
    assumption (shows c.args.self.now _ c.in-Opened.is _ c.in-Some.ensures _ c.take-then-found-goal.ensures.bag c.take-then-found-goal.ensures.slots _ c.record-found.ensures (sym c.blocks-2.ensures ∙ c.if-blocks.false) c.if-found-goal.true _ c.set_best.ensures _ c.choose.ensures (g.met.Q.OpenList.sound c.args.self.now.list).limit)

pub returns-then-found-goal : goal.returns-then-found-goal
returns-then-found-goal g c =
    (shows c.args.self.now _ c.in-Opened.is _ c.in-Some.ensures _ c.take-then-found-goal.ensures.bag c.take-then-found-goal.ensures.slots _ c.record-found.ensures (sym c.blocks-2.ensures ∙ c.if-blocks.false) c.if-found-goal.true _ c.set_best.ensures _ c.choose.ensures (g.met.Q.OpenList.sound c.args.self.now.list).limit).step _ _ _ _

pub open_up-requires : goal.open_up-requires
open_up-requires g c = record {
  phase = c.in-Opened.is;
  entry = c.in-Some.entry;
  least = c.in-Some.ensures;
  number_is = refl;
  record_is = c.record-found.ensures;
  of_use = useless_read c.args.self.now _ c.in-Opened.is _ c.in-Some.ensures _ c.record-found.ensures ∙ sym c.blocks-2.ensures ∙ c.if-blocks.false;
  elsewhere = c.if-found-goal.false;
}
