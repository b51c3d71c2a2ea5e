-- What holds of bags: the order in which entries are inserted does not matter. Assumes nothing.
use Rattle.std.specs.Prelude.{◌≡◌, suc, true, false, cond, List, [], ◌∷◌, ◌++◌, length, refl}
use Rattle.std.proofs.Common.{sym, ap, ◌∙◌, inl, inr, arith}
use Rattle.std.proofs.lemmas.Bool.{cases_Bool, cond-true, cond-false}
use Rattle.costs.specs.declared.entry.Entry.{Entry}
use Rattle.costs.specs.Order.{before, Least, Rising}
use Rattle.costs.specs.Bag.{inserted, sorted}
use Rattle.costs.specs.Ordered.{never_itself, one_way, on_less, not_greater_on, same_place}

-- where an entry goes
pub past : (a e : Entry) (es : List Entry) → before e a ≡ true → inserted a (e ∷ es) ≡ e ∷ inserted a es
unfolding inserted
past a e es h = cond-true _ _ _ h

pub here : (a e : Entry) (es : List Entry) → before e a ≡ false → inserted a (e ∷ es) ≡ a ∷ e ∷ es
unfolding inserted
here a e es h = cond-false _ _ _ h

pub alone : (a : Entry) → inserted a [] ≡ a ∷ []
unfolding inserted
alone a = refl

-- both entries go past e
both_past : (a b e : Entry) (es : List Entry) → before e a ≡ true → before e b ≡ true → inserted a (inserted b (e ∷ es)) ≡ e ∷ inserted a (inserted b es)
both_past a b e es ha hb = ap (inserted a) (past b e es hb) ∙ past a e _ ha

-- one of the entries goes past e and the other does not
one_past : (a b e : Entry) (es : List Entry) → before e a ≡ false → before e b ≡ true → inserted a (inserted b (e ∷ es)) ≡ inserted b (inserted a (e ∷ es))
one_past a b e es ha hb =
    let less : before a b ≡ true = on_less a e b ha hb in
    let left = ap (inserted a) (past b e es hb) ∙ here a e (inserted b es) ha in
    let right = ap (inserted b) (here a e es ha) ∙ past b a (e ∷ es) less ∙ ap (λ l. a ∷ l) (past b e es hb) in
    left ∙ sym right

-- both stay in front
both_front : (a b : Entry) (es : List Entry) → inserted a es ≡ a ∷ es → inserted b es ≡ b ∷ es → inserted a (inserted b es) ≡ inserted b (inserted a es)
both_front a b es fa fb =
    elim (cases_Bool (before a b)) [
      | inl ab ↦
          let left = ap (inserted a) fb ∙ here a b es (one_way a b ab) in
          left ∙ sym (ap (inserted b) fa ∙ past b a es ab ∙ ap (λ l. a ∷ l) fb)
      | inr ab ↦ elim (cases_Bool (before b a)) [
        | inl ba ↦
            let left = ap (inserted a) fb ∙ past a b es ba ∙ ap (λ l. b ∷ l) fa in
            left ∙ sym (ap (inserted b) fa ∙ here b a es ab)
        | inr ba ↦ let same = same_place a b ab ba in cc
      ]
    ]

pub swap : (a b : Entry) (es : List Entry) → inserted a (inserted b es) ≡ inserted b (inserted a es)
swap a b [] = both_front a b [] (alone a) (alone b)
swap a b (e ∷ es) =
    elim (cases_Bool (before e a)) [
      | inl ha ↦ elim (cases_Bool (before e b)) [
        | inl hb ↦ both_past a b e es ha hb ∙ ap (λ l. e ∷ l) (swap a b es) ∙ sym (both_past b a e es hb ha)
        | inr hb ↦ sym (one_past b a e es hb ha)
      ]
      | inr ha ↦ elim (cases_Bool (before e b)) [
        | inl hb ↦ one_past a b e es ha hb
        | inr hb ↦ both_front a b (e ∷ es) (here a e es ha) (here b e es hb)
      ]
    ]

-- the bag of a list to whose end an entry was added
pub sorted_push : (es : List Entry) (a : Entry) → sorted (es ++ a ∷ []) ≡ inserted a (sorted es)
sorted_push [] a = refl
sorted_push (e ∷ es) a = ap (inserted e) (sorted_push es a) ∙ swap e a (sorted es)

pub sorted_empty : (es : List Entry) → length es ≡ 0 → sorted es ≡ []
sorted_empty [] h = refl
sorted_empty (e ∷ es) h = absurd (omega arith)

-- a bag has as many entries as the list
pub length_inserted : (a : Entry) (es : List Entry) → length (inserted a es) ≡ suc (length es)
length_inserted a [] = ap length (alone a)
length_inserted a (e ∷ es) =
    elim (cases_Bool (before e a)) [
      | inl h ↦ ap length (past a e es h) ∙ ap suc (length_inserted a es)
      | inr h ↦ ap length (here a e es h)
    ]

pub length_sorted : (es : List Entry) → length (sorted es) ≡ length es
length_sorted [] = refl
length_sorted (e ∷ es) = length_inserted e (sorted es) ∙ ap suc (length_sorted es)

-- an entry that is less than none of a list is less than none of its bag, and stands in front of it
least_inserted : (a b : Entry) (es : List Entry) → before b a ≡ false → Least a es → Least a (inserted b es)
least_inserted a b [] hb h = rw (alone b) (hb, tt)
least_inserted a b (e ∷ es) hb h =
    elim (cases_Bool (before e b)) [
      | inl g ↦ rw (past b e es g) (h.0, least_inserted a b es hb h.1)
      | inr g ↦ rw (here b e es g) (hb, h)
    ]

pub least_sorted : (a : Entry) (es : List Entry) → Least a es → Least a (sorted es)
least_sorted a [] h = tt
least_sorted a (e ∷ es) h = least_inserted a e (sorted es) h.0 (least_sorted a es h.1)

pub least_front : (a : Entry) (es : List Entry) → Least a es → inserted a es ≡ a ∷ es
least_front a [] h = alone a
least_front a (e ∷ es) h = here a e es h.0

-- a bag rises
least_on : (a b : Entry) (es : List Entry) → before b a ≡ false → Least b es → Least a es
least_on a b [] hb h = tt
least_on a b (e ∷ es) hb h = (not_greater_on a b e hb h.0, least_on a b es hb h.1)

pub rising_inserted : (a : Entry) (es : List Entry) → Rising es → Rising (inserted a es)
rising_inserted a [] h = rw (alone a) (tt, tt)
rising_inserted a (e ∷ es) h =
    elim (cases_Bool (before e a)) [
      | inl g ↦ rw (past a e es g) (least_inserted e a es (one_way e a g) h.0, rising_inserted a es h.1)
      | inr g ↦ rw (here a e es g) ((g, least_on a e es g h.0), h)
    ]

pub rising_sorted : (es : List Entry) → Rising (sorted es)
rising_sorted [] = tt
rising_sorted (e ∷ es) = rising_inserted e (sorted es) (rising_sorted es)

-- bags that an entry makes equal were equal
without : Entry → List Entry → List Entry
without a [] = []
without a (e ∷ es) = cond (before e a) (e ∷ without a es) es

without_inserted : (a : Entry) (es : List Entry) → without a (inserted a es) ≡ es
unfolding without
without_inserted a [] = ap (without a) (alone a) ∙ cond-false _ _ _ (never_itself a)
without_inserted a (e ∷ es) =
    elim (cases_Bool (before e a)) [
      | inl h ↦ ap (without a) (past a e es h) ∙ cond-true _ _ _ h ∙ ap (λ l. e ∷ l) (without_inserted a es)
      | inr h ↦ ap (without a) (here a e es h) ∙ cond-false _ _ _ (never_itself a)
    ]

pub inserted_same : (a : Entry) (es fs : List Entry) → inserted a es ≡ inserted a fs → es ≡ fs
inserted_same a es fs h = sym (without_inserted a es) ∙ ap (without a) h ∙ without_inserted a fs
