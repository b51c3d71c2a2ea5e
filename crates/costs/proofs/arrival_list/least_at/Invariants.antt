use Rattle.std.proofs.Common.{◌<◌}
use Rattle.costs.specs.Order.{LeastTo}
use Rattle.costs.proofs.arrival_list.least_at.Given as goal

-- the least of those before `at`
abbrev pub invariant-loop-at : goal.invariant-loop-at
invariant-loop-at l = (l.least < l.at) × LeastTo l.entries l.least l.at
