-- The choices of the rules are the closed nodes at the goal, in the order of their closing. Assumes nothing.
use Rattle.std.proofs.Common.{◌≡◌, ℕ, ◌<◌, ◌≤◌, cond, eqb, ◌⊎◌, List, [], ◌∷◌, ◌++◌, length, get_or, sym, refl, ap, subst, inl, inr, arith}
use Rattle.std.proofs.lemmas.List.{get_or_append_left}
use Rattle.std.proofs.lemmas.Bool.{cases_Bool, eqb-true, eq-eqb, cond-true, cond-false}
use Rattle.plan.specs.declared.record.Record.{Record}
use Rattle.plan.specs.Ways.{Pair, Rising, Among}
use Rattle.plan.specs.Rules.{Task, State, no_record, pair_of, pairs_in}
use Rattle.plan.specs.Openings.{Fair}
use Rattle.plan.proofs.Search.{In, top, below, nowhere, Node, InOrder, later}
use Rattle.plan.proofs.Promises.{Choice, rising}
use Rattle.plan.proofs.Instance.{problem_of}

-- numbers below n
abbrev pub Below : ℕ → List ℕ → Type 0
Below n [] = Unit {0}
Below n (x ∷ xs) = (x < n) × Below n xs

pub below_more : (m n : ℕ) (xs : List ℕ) → m ≤ n → Below m xs → Below n xs
below_more m n [] le h = tt
below_more m n (x ∷ xs) le h = (omega (arith, h.0), below_more m n xs le h.1)

pub below_push : (n x : ℕ) (xs : List ℕ) → Below n xs → x < n → Below n (xs ++ x ∷ [])
below_push n x [] h lt = (lt, tt)
below_push n x (y ∷ xs) h lt = (h.0, below_push n x xs h.1 lt)

pub pairs_more : (rs more : List Record) (ns : List ℕ) → Below (length rs) ns → pairs_in (rs ++ more) ns ≡ pairs_in rs ns
pairs_more rs more [] h = refl
pairs_more rs more (n ∷ ns) h = (λ i. pair_of (get_or_append_left rs more no_record n h.0 i) ∷ pairs_more rs more ns h.1 i)

pub pairs_push : (rs : List Record) (n : ℕ) (ns : List ℕ) → pairs_in rs (ns ++ n ∷ []) ≡ pairs_in rs ns ++ pair_of (get_or rs n no_record) ∷ []
pairs_push rs n [] = refl
pairs_push rs n (m ∷ ns) = ap (λ (l : List Pair). pair_of (get_or rs m no_record) ∷ l) (pairs_push rs n ns)

among_push : (x y : Pair) (xs : List Pair) → Among x (xs ++ y ∷ []) → Among x xs ⊎ (x ≡ y)
among_push x y [] (inl same) = inr same
among_push x y [] (inr h) = absurd h
among_push x y (z ∷ xs) (inl same) = inl (inl same)
among_push x y (z ∷ xs) (inr h) = elim (among_push x y xs h) [ inl old ↦ inl (inr old) | inr new ↦ inr new ]

push_old : (x y : Pair) (xs : List Pair) → Among x xs → Among x (xs ++ y ∷ [])
push_old x y [] h = absurd h
push_old x y (z ∷ xs) (inl same) = inl same
push_old x y (z ∷ xs) (inr h) = inr (push_old x y xs h)

push_new : (y : Pair) (xs : List Pair) → Among y (xs ++ y ∷ [])
push_new y [] = inl refl
push_new y (z ∷ xs) = inr (push_new y xs)

rising_push : (y : Pair) (xs : List Pair) → Rising xs → ((x : Pair) → Among x xs → x.lead < y.lead) → Rising (xs ++ y ∷ [])
rising_push y [] h less = tt
rising_push y (x ∷ []) h less = (less x (inl refl), tt)
rising_push y (x ∷ z ∷ xs) h less = (h.0, rising_push y (z ∷ xs) h.1 (λ w in_w. less w (inr in_w)))

module _ (task : Task) (fair : Fair task) where
  abbrev pub pair_at : Node (problem_of task fair) → Pair
  pair_at n = record { lead = n.lead.0; second = n.second.0 }

  abbrev pub shown_of : List (Node (problem_of task fair)) → List Pair
  shown_of [] = []
  shown_of (x ∷ closed) = cond (eqb x.place task.goal) (shown_of closed ++ pair_at x ∷ []) (shown_of closed)

  pub record Chosen (s : State) (closed : List (Node (problem_of task fair))) : Type 0 where
    pub stored : Below (length s.records) s.choices
    pub pairs : pairs_in s.records s.choices ≡ shown_of closed

  -- every pair shown is that of a closed node at the goal
  pub shown_choice : (closed : List (Node (problem_of task fair))) (p : Pair) → Among p (shown_of closed) → (z : Node (problem_of task fair)) × Choice (problem_of task fair) closed task.goal z × (pair_at z ≡ p)
  shown_choice [] p h = absurd h
  shown_choice (x ∷ closed) p h =
      elim (cases_Bool (eqb x.place task.goal)) [
        | inl at_goal ↦
            elim (among_push p (pair_at x) (shown_of closed) (subst (Among p) (cond-true _ _ _ at_goal) h)) [
              | inl old ↦ more (shown_choice closed p old)
              | inr new ↦ (x, record { shown = top; there = eqb-true _ _ at_goal }, sym new)
            ]
        | inr elsewhere ↦ more (shown_choice closed p (subst (Among p) (cond-false _ _ _ elsewhere) h))
      ]
    where
      more : ((z : Node (problem_of task fair)) × Choice (problem_of task fair) closed task.goal z × (pair_at z ≡ p)) → (z : Node (problem_of task fair)) × Choice (problem_of task fair) (x ∷ closed) task.goal z × (pair_at z ≡ p)
      more found = (found.0, record { shown = below found.1.shown; there = found.1.there }, found.2)

  pub choice_shown : (closed : List (Node (problem_of task fair))) (z : Node (problem_of task fair)) → In z closed → z.place ≡ task.goal → Among (pair_at z) (shown_of closed)
  choice_shown [] z h there = absurd (nowhere z h)
  choice_shown (x ∷ closed) z top there = subst (Among (pair_at z)) (sym (cond-true _ _ _ (eq-eqb _ _ there))) (push_new (pair_at z) (shown_of closed))
  choice_shown (x ∷ closed) z (below h) there =
      elim (cases_Bool (eqb x.place task.goal)) [
        | inl at_goal ↦ subst (Among (pair_at z)) (sym (cond-true _ _ _ at_goal)) (push_old (pair_at z) (pair_at x) (shown_of closed) (choice_shown closed z h there))
        | inr elsewhere ↦ subst (Among (pair_at z)) (sym (cond-false _ _ _ elsewhere)) (choice_shown closed z h there)
      ]

  pub rising_shown : (closed : List (Node (problem_of task fair))) → InOrder (problem_of task fair) closed → Rising (shown_of closed)
  rising_shown [] order = tt
  rising_shown (x ∷ closed) (later first unblocked rest) =
      elim (cases_Bool (eqb x.place task.goal)) [
        | inl at_goal ↦
            subst Rising (sym (cond-true _ _ _ at_goal)) (rising_push (pair_at x) (shown_of closed) (rising_shown closed rest) (λ p in_p.
            let z = shown_choice closed p in_p in
            let gap = rising (problem_of task fair) task.goal refl x z.0 closed (later first unblocked rest) z.1.shown (eqb-true _ _ at_goal) z.1.there in
            omega (arith, gap.0, ap (λ (q : Pair). q.lead) z.2)))
        | inr elsewhere ↦ subst Rising (sym (cond-false _ _ _ elsewhere)) (rising_shown closed rest)
      ]
