-- What the library's order of entries, and its heap of entries in reversed order, say of bags. Assumes nothing.
use Rattle.std.proofs.Common.{◌≡◌, ◌<◌, List, [], ◌∷◌, length, get_or, Some, Ok, Err, IsOk, OnOk, Result, refl, sym, ap, ◌∙◌, arith}
use Rattle.std.proofs.lemmas.Bool.{both_ways}
use Rattle.std.proofs.lemmas.Bool.Decides.{nat_tests}
use Rattle.std.specs.BinaryHeap.{IsUpperBound}
use Rattle.std.specs.Ordering.{is_lt}
use Rattle.std.specs.List.Sorted.{IsPermutation}
use Rattle.std.specs.declared.cmp.Reverse.{Reverse}
use Rattle.std.proofs.lemmas.List.{length-map}
use Rattle.std.proofs.lemmas.List.Sorted.{IsPermutation-map, IsPermutation-refl}
use Rattle.costs.specs.declared.entry.Entry.{Entry}
use Rattle.costs.specs.Order.{before, Least}
use Rattle.costs.specs.Bag.{inserted, sorted, first}
use Rattle.costs.specs.Bags.{length_sorted}
use Rattle.costs.specs.Reversed.{by_fields, by_reverse, unreversed}
use Rattle.costs.proofs.Leasts.{least_first}
use Rattle.costs.proofs.Moves.{sorted_same}

-- the derived order is the order of entries
pub before_by_fields : (a b : Entry) → is_lt (by_fields a b) ≡ before a b
unfolding before
before_by_fields a b = grind (arith, nat_tests)

-- the greatest in reversed order is the least
least_up : (x : Reverse Entry) (xs : List (Reverse Entry)) → IsUpperBound by_reverse x xs → Least x.0 (unreversed xs)
least_up x [] h = tt
least_up x (y ∷ ys) h = (sym (before_by_fields y.0 x.0) ∙ h.0, least_up x ys h.1)

same_entries : (xs ys : List (Reverse Entry)) → IsPermutation xs ys → IsPermutation (unreversed xs) (unreversed ys)
same_entries = IsPermutation-map (λ (x : Reverse Entry). x.0)

-- how many are in a heap, and what is in it after a push and a pop, and at its front
pub length_bag : (xs : List (Reverse Entry)) → length (sorted (unreversed xs)) ≡ length xs
length_bag xs = length_sorted (unreversed xs) ∙ length-map xs (λ (x : Reverse Entry). x.0)

pub pushed : (x : Reverse Entry) (xs ys : List (Reverse Entry)) {E : Type 0} (r : Result (Unit {0}) E) → IsOk r → OnOk r (IsPermutation (x ∷ xs) ys) → sorted (unreversed ys) ≡ inserted x.0 (sorted (unreversed xs))
pushed x xs ys (Ok _) fits same = sorted_same _ _ (same_entries (x ∷ xs) ys same)
pushed x xs ys (Err _) fits same = absurd (both_ways _ refl fits)

pub popped : (x : Reverse Entry) (xs ys : List (Reverse Entry)) → IsPermutation xs (x ∷ ys) → IsUpperBound by_reverse x ys → sorted (unreversed xs) ≡ x.0 ∷ sorted (unreversed ys)
popped x xs ys same most = least_first x.0 _ _ (same_entries xs (x ∷ ys) same) (least_up x ys most)

pub peeked : (x : Reverse Entry) (xs : List (Reverse Entry)) → 0 < length xs → x ≡ get_or xs 0 x → IsUpperBound by_reverse x xs → first (sorted (unreversed xs)) ≡ Some x.0
peeked x [] some is most = absurd (omega arith)
peeked x (y ∷ ys) some is most = let same : x ≡ y = is in ap first (popped x (y ∷ ys) ys (rw same (IsPermutation-refl _)) most.1)
