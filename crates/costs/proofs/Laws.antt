-- The laws of the two kinds, for proofs about examples. Assumes nothing.
use Rattle.std.proofs.Common.{rules}
use Rattle.costs.specs.Kinds.{Lawful, sum, worst}

pub sum_lawful : Lawful sum
sum_lawful = search rules

pub worst_lawful : Lawful worst
worst_lawful = search rules
