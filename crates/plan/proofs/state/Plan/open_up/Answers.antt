use Rattle.std.proofs.Common.{length, ap, ◌∙◌, arith}
use Rattle.plan.proofs.Stepping.{opens, wants, opens_up, used_slots, waiting_few, opened_few}
use Rattle.plan.proofs.state.Plan.open_up.Goals as goal

pub invariant_of-parent : goal.invariant_of-parent
invariant_of-parent g c = record { opens = opens c.args.self.now _ _ _ c.requires }

pub overflow_sub-slots : goal.overflow_sub-slots
overflow_sub-slots g c = omega (arith, used_slots c.args.self.now _ _ _ c.requires)

pub returns-then-children-slots : goal.returns-then-children-slots
returns-then-children-slots g c = wants c.args.self.now _ _ _ c.requires (omega arith) _ _ _ _

pub add_children-requires-clause-slots : goal.add_children-requires-clause-slots
add_children-requires-clause-slots g c =
    omega (arith, waiting_few c.args.self.now _ _ _ c.requires, used_slots c.args.self.now _ _ _ c.requires, ap length c.take.ensures.bag)

pub overflow_add-self : goal.overflow_add-self
overflow_add-self g c = omega (arith, opened_few c.args.self.now _ _ _ c.requires, (g.met.Q.OpenList.sound c.args.self.now.list).limit)

pub invariant_of-self-2 : goal.invariant_of-self-2
invariant_of-self-2 g c =
    assumption (opens_up c.args.self.now _ _ _ c.requires _ c.count_children-children.ensures (omega arith) _ c.take.ensures.bag _ _ (c.add_children.ensures.slots ∙ c.take.ensures.slots) c.add_children.ensures.added _ c.set_best.ensures (g.met.Q.OpenList.sound c.args.self.now.list).limit)

pub returns : goal.returns
returns g c =
    (opens_up c.args.self.now _ _ _ c.requires _ c.count_children-children.ensures (omega arith) _ c.take.ensures.bag _ _ (c.add_children.ensures.slots ∙ c.take.ensures.slots) c.add_children.ensures.added _ c.set_best.ensures (g.met.Q.OpenList.sound c.args.self.now.list).limit).step _ _ _ _
