use Rattle.plan.proofs.Loading.{Linking}
use Rattle.plan.proofs.table.Table.link_all.Given as goal

abbrev pub invariant-loop-number : goal.invariant-loop-number
invariant-loop-number l = Linking l.fn.self l.self l.number
