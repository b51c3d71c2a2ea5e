-- The least entry of a list: how it is found, and that it comes first in the bag. Assumes nothing.
use Rattle.std.proofs.Common.{◌≡◌, ℕ, ◌+◌, ◌<◌, true, false, List, [], ◌∷◌, length, get_or, Some, All, sym, subst, ap, ◌∙◌, arith, below_more}
use Rattle.std.specs.List.{remove}
use Rattle.std.specs.List.Sorted.{IsPermutation}
use Rattle.std.proofs.lemmas.List.{get_or_default, get_or_read}
use Rattle.std.proofs.lemmas.List.Elements.{All-from_get_or, All-tail}
use Rattle.std.proofs.lemmas.List.Sorted.{All-permutation, IsPermutation-remove}
use Rattle.costs.specs.declared.entry.Entry.{Entry}
use Rattle.costs.specs.Order.{blank, before, Least, LeastTo}
use Rattle.costs.specs.Bag.{sorted, first, rest}
use Rattle.costs.specs.Bags.{least_sorted, least_front}
use Rattle.costs.specs.Ordered.{never_itself, one_way, not_greater_on}
use Rattle.costs.proofs.Moves.{sorted_same}

-- a search, one place on
pub least_found : (es : List Entry) (j i : ℕ) → LeastTo es j i → before (get_or es i blank) (get_or es j blank) ≡ true → LeastTo es i (i + 1)
least_found es j i least less =
    below_more _ _ (λ k h. not_greater_on _ _ _ (one_way _ _ less) (least k h)) (never_itself _)

pub least_stays : (es : List Entry) (j i : ℕ) → LeastTo es j i → before (get_or es i blank) (get_or es j blank) ≡ false → LeastTo es j (i + 1)
least_stays es j i least no_less = below_more _ _ least no_less

-- es is a and fs, in whatever order
pub least_first : (a : Entry) (es fs : List Entry) → IsPermutation es (a ∷ fs) → Least a fs → sorted es ≡ a ∷ sorted fs
least_first a es fs same least = sym (sorted_same es (a ∷ fs) same) ∙ least_front a _ (least_sorted a fs least)

abbrev NoLess : Entry → Entry → Type 0
NoLess a e = before e a ≡ false

least_all : (a : Entry) (es : List Entry) → All (NoLess a) es → Least a es
least_all a [] h = tt
least_all a (e ∷ es) h = (h 0 e (omega arith), least_all a es (All-tail (NoLess a) e es h))

-- the least entry is taken out
split : (es : List Entry) (i : ℕ) (a : Entry) → i < length es → a ≡ get_or es i a → LeastTo es i (length es) → sorted es ≡ a ∷ sorted (remove es i)
split es i a within read least =
    let same = IsPermutation-remove es i a within read in
    let is = sym (get_or_read es i a within read blank) in
    let all : All (NoLess a) es = All-from_get_or (NoLess a) es blank (λ k h. subst (λ (b : Entry). NoLess b (get_or es k blank)) is (least k h)) in
    least_first a es _ same (least_all a _ (All-tail (NoLess a) a _ (All-permutation (NoLess a) es _ same all)))

pub first_is : (es : List Entry) (i : ℕ) (a : Entry) → i < length es → a ≡ get_or es i a → LeastTo es i (length es) → first (sorted es) ≡ Some a
first_is es i a within read least = ap first (split es i a within read least)

pub rest_is : (es : List Entry) (i : ℕ) → i < length es → LeastTo es i (length es) → rest (sorted es) ≡ sorted (remove es i)
rest_is es i within least = ap rest (split es i (get_or es i blank) within (get_or_default es i _ _ within) least)
