use Rattle.std.proofs.Common.{arith}
use Rattle.plan.proofs.Kids.{to_place, join_leading, join_second, join_estimate, join_leading_estimate}
use Rattle.plan.proofs.parent.Parent.child_by.Goals as goal

pub place-to-requires : goal.place-to-requires
place-to-requires g c = rw c.link.ensures (to_place c.args.self.now c.args.passage c.requires.inside)

pub joined-second-requires : goal.joined-second-requires
joined-second-requires g c = rw c.link.ensures (join_second c.args.self.now c.args.passage c.requires.inside)

pub joined-estimate-requires : goal.joined-estimate-requires
joined-estimate-requires g c = grind (arith, join_estimate c.args.self.now c.args.passage)

pub blocks-requires-clause-place : goal.blocks-requires-clause-place
blocks-requires-clause-place g c = grind (arith, to_place c.args.self.now)

pub joined-leading-requires : goal.joined-leading-requires
joined-leading-requires g c = rw c.link.ensures (join_leading c.args.self.now c.args.passage c.requires.inside)

pub joined-requires : goal.joined-requires
joined-requires g c = grind (arith, join_leading_estimate c.args.self.now c.args.passage)
