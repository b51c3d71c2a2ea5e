use Rattle.std.proofs.Common.{arith}
use Rattle.plan.proofs.Loading.{linking_more}
use Rattle.plan.proofs.table.Table.link_all.Goals as goal

pub loop-number-preserved : goal.loop-number-preserved
loop-number-preserved c = rw c.put_first.ensures (linking_more _ _ _ _ (omega arith) c.requires c.loop-number.invariant (omega arith))
