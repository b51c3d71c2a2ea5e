use Rattle.std.proofs.Common.{sym, ◌∙◌}
use Rattle.plan.proofs.Opening.{begins}
use Rattle.plan.proofs.state.Plan.begin.Goals as goal

pub invariant_of-self : goal.invariant_of-self
invariant_of-self g c =
    let p = c.args.self.now in
    assumption (begins _ _ p.table c.args.request.now p.building c.requires.asked p.indexed _ _ _ _ _ _ _ _ _ c.prepare.ensures c.begin.ensures c.from-at.ensures c.joined.ensures c.joined-2.ensures c.clear.ensures.bag (c.clear.ensures.slots ∙ sym c.requires.slots) c.put.ensures.bag c.put.ensures.slots)

pub returns : goal.returns
returns g c =
    let p = c.args.self.now in
    (begins _ _ p.table c.args.request.now p.building c.requires.asked p.indexed _ _ _ _ _ _ _ _ _ c.prepare.ensures c.begin.ensures c.from-at.ensures c.joined.ensures c.joined-2.ensures c.clear.ensures.bag (c.clear.ensures.slots ∙ sym c.requires.slots) c.put.ensures.bag c.put.ensures.slots).stage
