-- Where the rule has a value, and so the program's join gives it. Assumes nothing.
use Rattle.std.proofs.Common.{◌≡◌, ℕ, ◌+◌, ◌≤◌, true, Some, arith}
use Rattle.std.proofs.lemmas.Bool.Decides.{nat_tests}
use Rattle.costs.specs.Kinds.{Kind, join_limit, limited}

pub joins_there : (k : Kind) (a b : ℕ) → k.is_value a ≡ true → k.is_value b ≡ true → a + b ≤ join_limit → limited k a b ≡ Some (k.joined a b)
joins_there k a b ha hb within = grind (arith, nat_tests)
