-- Lists of the same entries have the same bag. Assumes nothing.
use Rattle.std.proofs.Common.{◌≡◌, ℕ, zero, suc, ◌<◌, List, [], ◌∷◌, length, get_or, set, sym, refl, ap, ◌∙◌, inl, inr, arith, length-set, get_or-set_other, get_or-set_same}
use Rattle.std.specs.List.{swap as exchanged}
use Rattle.std.specs.List.Sorted.{IsPermutation}
use Rattle.std.proofs.lemmas.List.Sorted.{IsPermutation-keeps}
use Rattle.std.proofs.lemmas.List.Edits.{swap_is}
use Rattle.std.proofs.lemmas.Bool.{cases_eq}
use Rattle.costs.specs.declared.entry.Entry.{Entry}
use Rattle.costs.specs.Order.{blank}
use Rattle.costs.specs.Bag.{inserted, sorted}
use Rattle.costs.specs.Bags.{swap, inserted_same}

-- an entry is written over another, which leaves the bag
sorted_set : (es : List Entry) (i : ℕ) (d a : Entry) → i < length es → inserted (get_or es i d) (sorted (set es i a)) ≡ inserted a (sorted es)
sorted_set [] i d a h = absurd (omega arith)
sorted_set (e ∷ es) zero d a h = swap e a (sorted es)
sorted_set (e ∷ es) (suc i) d a h =
    swap (get_or es i d) e _ ∙ ap (inserted e) (sorted_set es i d a (omega arith)) ∙ swap e a (sorted es)

-- a copy of the entry at j leaves what is read at j
read_again : (es : List Entry) (i j : ℕ) (d : Entry) → i < length es → get_or (set es i (get_or es j d)) j d ≡ get_or es j d
read_again es i j d h =
    elim (cases_eq j i) [
      | inl same ↦ rw same (get_or-set_same es i _ d h)
      | inr other ↦ get_or-set_other es i j _ d other
    ]

-- two entries change places
sorted_exchanged : (es : List Entry) (i j : ℕ) → i < length es → j < length es → sorted (exchanged es i j) ≡ sorted es
sorted_exchanged es i j hi hj =
    let a = get_or es i blank in
    let b = get_or es j blank in
    let once = set es i b in
    let long = length-set es i b in
    let again = ap (λ (x : Entry). inserted x (sorted (set once j a))) (read_again es i j blank hi) in
    let both = sym again ∙ sorted_set once j blank a (omega arith) ∙ sorted_set es i blank b hi in
    ap sorted (sym (swap_is es i j blank hi hj)) ∙ inserted_same b _ _ both

pub sorted_same : (es fs : List Entry) → IsPermutation es fs → sorted fs ≡ sorted es
sorted_same es fs same = IsPermutation-keeps es (λ l. sorted l ≡ sorted es) refl (λ l i j hi hj h. sorted_exchanged l i j hi hj ∙ h) fs same
