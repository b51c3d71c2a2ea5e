-- The laws of the order of entries. Everything else is proved from these, with the order shut. Assumes nothing.
use Rattle.std.specs.Prelude.{◌≡◌, ◌<◌, ◌≤◌, true, false, ◌⊎◌}
use Rattle.std.proofs.Common.{inl, inr, arith}
use Rattle.std.proofs.lemmas.Bool.{cases_lt}
use Rattle.std.proofs.lemmas.Bool.Decides.{nat_tests}
use Rattle.costs.specs.declared.entry.Entry.{Entry}
use Rattle.costs.specs.Order.{entry_of, before}

pub never_itself : (a : Entry) → before a a ≡ false
unfolding before
never_itself a = grind (arith, nat_tests)

pub one_way : (a b : Entry) → before a b ≡ true → before b a ≡ false
unfolding before
one_way a b h = grind (arith, nat_tests)

-- less and then not greater is less
pub less_on : (a b c : Entry) → before a b ≡ true → before c b ≡ false → before a c ≡ true
unfolding before
less_on a b c h k = grind (arith, nat_tests)

-- not greater and then less is less
pub on_less : (a b c : Entry) → before b a ≡ false → before b c ≡ true → before a c ≡ true
unfolding before
on_less a b c h k = grind (arith, nat_tests)

pub not_greater_on : (a b c : Entry) → before b a ≡ false → before c b ≡ false → before c a ≡ false
unfolding before
not_greater_on a b c h k = grind (arith, nat_tests)

pub same_place : (a b : Entry) → before a b ≡ false → before b a ≡ false → a ≡ b
unfolding before
same_place a b h k =
    let leading : a.leading ≡ b.leading = grind (arith, nat_tests) in
    let second : a.second ≡ b.second = grind (arith, nat_tests) in
    let number : a.«record» ≡ b.«record» = grind (arith, nat_tests) in
    let same : entry_of a.leading a.second a.«record» ≡ entry_of b.leading b.second b.«record» = cc in
    same

-- what is not less has estimates that come no earlier
pub not_before : (a b : Entry) → before b a ≡ false → (a.leading < b.leading) ⊎ ((a.leading ≡ b.leading) × (a.second ≤ b.second))
unfolding before
not_before a b h =
    elim (cases_lt a.leading b.leading) [
      | inl less ↦ inl less
      | inr rest ↦ let level : a.leading ≡ b.leading = grind (arith, nat_tests) in inr (level, grind (arith, nat_tests))
    ]
