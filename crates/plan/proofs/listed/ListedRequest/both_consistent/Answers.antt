use Rattle.plan.proofs.Opening.{both_comparable}
use Rattle.plan.proofs.listed.ListedRequest.both_consistent.Goals as goal

pub is_consistent-requires : goal.is_consistent-requires
is_consistent-requires g c = rw c.link.ensures (both_comparable _ _ _ _ _ c.requires.building c.requires.inside c.args.self.now.listed c.requires.fits).0

pub is_consistent-requires-then-is_consistent : goal.is_consistent-requires-then-is_consistent
is_consistent-requires-then-is_consistent g c = rw c.link.ensures (both_comparable _ _ _ _ _ c.requires.building c.requires.inside c.args.self.now.listed c.requires.fits).1
