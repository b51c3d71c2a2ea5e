use Rattle.std.proofs.Common.{ℕ, ◌<◌, true}
use Rattle.plan.proofs.numbers.check_below.Given as goal

abbrev pub invariant-loop-number : goal.invariant-loop-number
invariant-loop-number g l = (n : ℕ) → n < l.number → goal.F-post g l.passes n true
