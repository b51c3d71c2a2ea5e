-- Which entries wait after some are put, and which records a step adds. Assumes nothing.
use Rattle.std.proofs.Common.{◌≡◌, ℕ, zero, suc, ◌+◌, ◌<◌, Bool, true, false, cond, not, ◌&&◌, eqb, ◌⊎◌, List, [], ◌∷◌, length, get_or, Option, sym, refl, ap, ◌∙◌, subst, inl, inr, arith}
use Rattle.std.proofs.lemmas.Bool.{cases_Bool, and_parts, and_from, eqb-true, eq-eqb, both_ways, not-true, not_from_false}
use Rattle.costs.specs.Bag.{inserted}
use Rattle.costs.specs.Order.{before, Rising}
use Rattle.costs.specs.declared.entry.Entry.{Entry}
use Rattle.costs.specs.Bags.{past, here, alone, rising_inserted}
use Rattle.survey.specs.declared.passage.Passage.{Passage}
use Rattle.plan.specs.declared.record.Record.{Record}
use Rattle.plan.specs.Ways.{no_passage}
use Rattle.plan.specs.Rules.{Task, no_record, useless, entry_for, child_along, children_from, put_all}
use Rattle.plan.proofs.Search.{In, top, below, nowhere}

pub in_cons : (f e : Entry) (es : List Entry) → In e (f ∷ es) → (e ≡ f) ⊎ In e es
in_cons f e es top = inl refl
in_cons f e es (below n) = inr n

in_first : (f e : Entry) (es : List Entry) → e ≡ f → In e (f ∷ es)
in_first f e es same = subst (λ (a : Entry). In a (f ∷ es)) (sym same) top

in_inserted : (a e : Entry) (es : List Entry) → In e (inserted a es) → (e ≡ a) ⊎ In e es
in_inserted a e [] h = in_cons a e [] (subst (λ (l : List Entry). In e l) (alone a) h)
in_inserted a e (f ∷ es) h =
    elim (cases_Bool (before f a)) [
      | inl less ↦
          elim (in_cons f e (inserted a es) (subst (λ (l : List Entry). In e l) (past a f es less) h)) [
            | inl same ↦ inr (in_first f e es same)
            | inr rest ↦ elim (in_inserted a e es rest) [ inl same ↦ inl same | inr old ↦ inr (below old) ]
          ]
      | inr rest ↦ in_cons a e (f ∷ es) (subst (λ (l : List Entry). In e l) (here a f es rest) h)
    ]

inserted_in : (a : Entry) (es : List Entry) → In a (inserted a es)
inserted_in a [] = subst (λ (l : List Entry). In a l) (sym (alone a)) top
inserted_in a (f ∷ es) =
    elim (cases_Bool (before f a)) [
      | inl less ↦ subst (λ (l : List Entry). In a l) (sym (past a f es less)) (below (inserted_in a es))
      | inr rest ↦ subst (λ (l : List Entry). In a l) (sym (here a f es rest)) top
    ]

inserted_old : (a e : Entry) (es : List Entry) → In e es → In e (inserted a es)
inserted_old a e [] h = absurd (nowhere e h)
inserted_old a e (f ∷ es) h =
    elim (cases_Bool (before f a)) [
      | inl less ↦
          subst (λ (l : List Entry). In e l) (sym (past a f es less))
          (elim (in_cons f e es h) [ inl same ↦ in_first f e (inserted a es) same | inr old ↦ below (inserted_old a e es old) ])
      | inr rest ↦ subst (λ (l : List Entry). In e l) (sym (here a f es rest)) (below h)
    ]

module _ (task : Task) where
  pub rising_all : (n : ℕ) (rs : List Record) (es : List Entry) → Rising es → Rising (put_all task n rs es)
  rising_all n [] es h = h
  rising_all n (r ∷ rs) es h = rising_all (suc n) rs (inserted (entry_for task n r) es) (rising_inserted (entry_for task n r) es h)

  pub put_old : (n : ℕ) (rs : List Record) (es : List Entry) (e : Entry) → In e es → In e (put_all task n rs es)
  put_old n [] es e h = h
  put_old n (r ∷ rs) es e h = put_old (suc n) rs (inserted (entry_for task n r) es) e (inserted_old (entry_for task n r) e es h)

  pub put_new : (n : ℕ) (rs : List Record) (es : List Entry) (i : ℕ) → i < length rs → In (entry_for task (n + i) (get_or rs i no_record)) (put_all task n rs es)
  put_new n [] es i h = absurd (omega arith)
  put_new n (r ∷ rs) es zero h =
      let same : n ≡ n + 0 = omega arith in
      subst (λ (k : ℕ). In (entry_for task k r) (put_all task n (r ∷ rs) es)) same (put_old (suc n) rs (inserted (entry_for task n r) es) (entry_for task n r) (inserted_in (entry_for task n r) es))
  put_new n (r ∷ rs) es (suc i) h =
      let same : suc n + i ≡ n + suc i = omega arith in
      subst (λ (k : ℕ). In (entry_for task k (get_or rs i no_record)) (put_all task n (r ∷ rs) es)) same (put_new (suc n) rs (inserted (entry_for task n r) es) i (omega arith))

  pub in_put : (n : ℕ) (rs : List Record) (es : List Entry) (e : Entry) → In e (put_all task n rs es) → In e es ⊎ ((i : ℕ) × (i < length rs) × (e ≡ entry_for task (n + i) (get_or rs i no_record)))
  in_put n [] es e h = inl h
  in_put n (r ∷ rs) es e h =
      elim (in_put (suc n) rs (inserted (entry_for task n r) es) e h) [
        | inl old ↦
            elim (in_inserted (entry_for task n r) e es old) [
              | inl same ↦ let zero_on : n ≡ n + 0 = omega arith in inr (0, omega arith, same ∙ ap (λ (k : ℕ). entry_for task k r) zero_on)
              | inr older ↦ inl older
            ]
        | inr found ↦
            let same : suc n + found.0 ≡ n + suc found.0 = omega arith in
            inr (suc found.0, omega (arith, found.1), found.2 ∙ ap (λ (k : ℕ). entry_for task k (get_or rs found.0 no_record)) same)
      ]

  -- what the children are: those by the passages that leave, in file order, that are of use
  module _ (bests : List (Option ℕ)) (parent : ℕ) (r : Record) where
    -- c comes by the passage k of ps, which are numbered from n on
    pub record ChildIn (n : ℕ) (ps : List Passage) (c : Record) : Type 0 where
      pub k : ℕ
      pub inside : k < length ps
      pub leaves : (get_or ps k no_passage).from ≡ r.place
      pub is : c ≡ child_along task parent r (n + k)
      pub of_use : useless task bests (child_along task parent r (n + k)) ≡ false

    abbrev test : ℕ → Passage → Bool
    test n p = eqb p.from r.place && not (useless task bests (child_along task parent r n))

    lift : (n : ℕ) (p : Passage) (ps : List Passage) (c : Record) → ChildIn (suc n) ps c → ChildIn n (p ∷ ps) c
    lift n p ps c found =
        let same : suc n + found.k ≡ n + suc found.k = omega arith in
        record {
          k = suc found.k;
          inside = omega (arith, found.inside);
          leaves = found.leaves;
          is = found.is ∙ ap (child_along task parent r) same;
          of_use = subst (λ (m : ℕ). useless task bests (child_along task parent r m) ≡ false) same found.of_use;
        }

    this : (n : ℕ) (p : Passage) (ps : List Passage) → test n p ≡ true → ChildIn n (p ∷ ps) (child_along task parent r n)
    this n p ps e =
        let same : n ≡ n + 0 = omega arith in
        let both = and_parts (eqb p.from r.place) (not (useless task bests (child_along task parent r n))) e in
        record {
          k = 0;
          inside = omega arith;
          leaves = eqb-true _ _ both.0;
          is = ap (child_along task parent r) same;
          of_use = subst (λ (m : ℕ). useless task bests (child_along task parent r m) ≡ false) same (not-true _ both.1);
        }

    each_at : (n : ℕ) (p : Passage) (ps : List Passage) (rest : List Record) (i : ℕ) (b : Bool) → test n p ≡ b → ((j : ℕ) → j < length rest → ChildIn (suc n) ps (get_or rest j no_record)) →
        i < length (cond b (child_along task parent r n ∷ rest) rest) → ChildIn n (p ∷ ps) (get_or (cond b (child_along task parent r n ∷ rest) rest) i no_record)
    each_at n p ps rest zero true e each h = this n p ps e
    each_at n p ps rest (suc i) true e each h = lift n p ps _ (each i (omega arith))
    each_at n p ps rest i false e each h = lift n p ps _ (each i h)

    pub each_child : (n : ℕ) (ps : List Passage) (i : ℕ) → i < length (children_from task bests parent r n ps) → ChildIn n ps (get_or (children_from task bests parent r n ps) i no_record)
    each_child n [] i h = absurd (omega arith)
    each_child n (p ∷ ps) i h = each_at n p ps (children_from task bests parent r (suc n) ps) i (test n p) refl (each_child (suc n) ps) h

    -- c stands among the records
    pub record Stored (rs : List Record) (c : Record) : Type 0 where
      pub at : ℕ
      pub inside : at < length rs
      pub is : get_or rs at no_record ≡ c

    stored_more : (rest : List Record) (d c : Record) (b : Bool) → Stored rest c → Stored (cond b (d ∷ rest) rest) c
    stored_more rest d c true h = record { at = suc h.at; inside = omega (arith, h.inside); is = h.is }
    stored_more rest d c false h = h

    stored_this : (rest : List Record) (c : Record) (b : Bool) → b ≡ true → Stored (cond b (c ∷ rest) rest) c
    stored_this rest c true e = record { at = 0; inside = omega arith; is = refl }
    stored_this rest c false e = absurd (both_ways false refl e)

    pub every_child : (n : ℕ) (ps : List Passage) (k : ℕ) → k < length ps → (get_or ps k no_passage).from ≡ r.place → useless task bests (child_along task parent r (n + k)) ≡ false → Stored (children_from task bests parent r n ps) (child_along task parent r (n + k))
    every_child n [] k h leaves of_use = absurd (omega arith)
    every_child n (p ∷ ps) zero h leaves of_use =
        let same : n ≡ n + 0 = omega arith in
        let useful = subst (λ (m : ℕ). useless task bests (child_along task parent r m) ≡ false) (sym same) of_use in
        subst (λ (m : ℕ). Stored (children_from task bests parent r n (p ∷ ps)) (child_along task parent r m)) same
        (stored_this (children_from task bests parent r (suc n) ps) (child_along task parent r n) (test n p) (and_from _ _ (eq-eqb _ _ leaves) (not_from_false _ useful)))
    every_child n (p ∷ ps) (suc k) h leaves of_use =
        let same : suc n + k ≡ n + suc k = omega arith in
        let useful = subst (λ (m : ℕ). useless task bests (child_along task parent r m) ≡ false) (sym same) of_use in
        subst (λ (m : ℕ). Stored (children_from task bests parent r n (p ∷ ps)) (child_along task parent r m)) same
        (stored_more (children_from task bests parent r (suc n) ps) (child_along task parent r n) _ (test n p) (every_child (suc n) ps k (omega arith) leaves useful))
