-- How the questions of a call are taken one part after another. Assumes nothing.
use Rattle.std.proofs.Common.{◌≡◌, ℕ, zero, suc, ◌+◌, ◌-◌, ◌<◌, ◌≤◌, true, false, cond, List, [], ◌∷◌, ◌++◌, IsErrAnd, Some, None, Ok, Err, Option, Result, sym, refl, ap, ◌∙◌, zero-add, arith}
use Rattle.survey.specs.declared.refusal.Refusal.{Refusal}
use Rattle.survey.specs.Questions.{Question, refusal_by, first_no, unless, each_from, each, told}

-- a part without a "no" leaves the rest to decide
pub first_after : (xs ys : List Question) → first_no xs ≡ None → first_no (xs ++ ys) ≡ first_no ys
first_after [] ys e = refl
first_after (q ∷ xs) ys e =
    elim q.answer as (λ b. cond b (first_no xs) (Some (refusal_by q)) ≡ None → cond b (first_no (xs ++ ys)) (Some (refusal_by q)) ≡ first_no ys)
    [ true ↦ first_after xs ys | false ↦ λ h. cc ] e

-- a part with a "no" decides
pub first_here : (xs ys : List Question) (r : Refusal) → first_no xs ≡ Some r → first_no (xs ++ ys) ≡ Some r
first_here [] ys r e = cc
first_here (q ∷ xs) ys r e =
    elim q.answer as (λ b. cond b (first_no xs) (Some (refusal_by q)) ≡ Some r → cond b (first_no (xs ++ ys)) (Some (refusal_by q)) ≡ Some r)
    [ true ↦ first_here xs ys r | false ↦ λ h. h ] e

module _ {T : Type 0} where
  -- what an accepted, and what a refused part says
  pub passed : (o : Option Refusal) (v w : T) → Ok w ≡ unless o v → (o ≡ None) × (w ≡ v)
  passed None v w e = (refl, cc)
  passed (Some r) v w e = absurd cc

  pub stopped : (o : Option Refusal) (v : T) (r : Refusal) → Err r ≡ unless o v → o ≡ Some r
  stopped None v r e = cc
  stopped (Some s) v r e = cc

  -- what the exit of a `?` tells, where the fault stays as it is
  pub exits : {F : Type 0} (f : F → Refusal) (r : Result T F) (e : F) → IsErrAnd r (λ y. y ≡ e) → told f r ≡ Err (f e)
  exits f (Ok x) e h = absurd h
  exits f (Err y) e h = ap (λ z. Err (f z)) h

  pub refused_by : (o : Option Refusal) (v : T) (r : Refusal) → o ≡ Some r → Err r ≡ unless o v
  refused_by o v r e = ap (λ p. unless p v) (sym e)

  pub accepted_by : (o : Option Refusal) (v w : T) → o ≡ None → w ≡ v → Ok w ≡ unless o v
  accepted_by o v w e same = ap Ok same ∙ ap (λ p. unless p v) (sym e)

-- one more of a row of questions, and its end
pub each_more : (n i : ℕ) (qs : ℕ → List Question) → i < n → each_from i (n - i) qs ≡ qs i ++ each_from (i + 1) (n - (i + 1)) qs
each_more n i qs h =
    let e : n - i ≡ suc (n - (i + 1)) = omega arith in
    let s : suc i ≡ i + 1 = omega arith in
    ap (λ (k : ℕ). each_from i k qs) e ∙ ap (λ (k : ℕ). qs i ++ each_from k (n - (i + 1)) qs) s

pub each_all : (n i : ℕ) (qs : ℕ → List Question) → n ≤ i → each_from i (n - i) qs ≡ []
each_all n i qs h = let e : n - i ≡ 0 = omega arith in ap (λ (k : ℕ). each_from i k qs) e

module _ (n i : ℕ) (qs : ℕ → List Question) (below : i < n) (left : first_no (each_from i (n - i) qs) ≡ first_no (each n qs)) where
  pub each_passed : first_no (qs i) ≡ None → first_no (each_from (i + 1) (n - (i + 1)) qs) ≡ first_no (each n qs)
  each_passed e = sym (ap first_no (each_more n i qs below) ∙ first_after (qs i) _ e) ∙ left

  pub each_stopped : (r : Refusal) → first_no (qs i) ≡ Some r → first_no (each n qs) ≡ Some r
  each_stopped r e = sym left ∙ ap first_no (each_more n i qs below) ∙ first_here (qs i) _ r e

-- what is known where no question is answered "no"
pub none_parts : (xs ys : List Question) → first_no (xs ++ ys) ≡ None → (first_no xs ≡ None) × (first_no ys ≡ None)
none_parts [] ys e = (refl, e)
none_parts (q ∷ xs) ys e =
    elim q.answer as (λ b. cond b (first_no (xs ++ ys)) (Some (refusal_by q)) ≡ None → (cond b (first_no xs) (Some (refusal_by q)) ≡ None) × (first_no ys ≡ None))
    [ true ↦ none_parts xs ys | false ↦ λ h. (h, cc) ] e

abbrev pub Yes : List Question → Type 0
Yes [] = Unit {0}
Yes (q ∷ qs) = (q.answer ≡ true) × Yes qs

pub none_yes : (qs : List Question) → first_no qs ≡ None → Yes qs
none_yes [] e = tt
none_yes (q ∷ qs) e =
    elim q.answer as (λ b. cond b (first_no qs) (Some (refusal_by q)) ≡ None → (b ≡ true) × Yes qs)
    [ true ↦ λ h. (refl, none_yes qs h) | false ↦ λ h. absurd cc ] e

pub none_each : (n k i : ℕ) (qs : ℕ → List Question) → first_no (each_from k n qs) ≡ None → i < n → first_no (qs (k + i)) ≡ None
none_each zero k i qs e h = absurd (omega arith)
none_each (suc n) k zero qs e h =
    let same : k ≡ k + 0 = omega arith in ap (λ (j : ℕ). first_no (qs j)) (sym same) ∙ (none_parts (qs k) (each_from (suc k) n qs) e).0
none_each (suc n) k (suc i) qs e h =
    let same : k + suc i ≡ suc k + i = omega arith in
    ap (λ (j : ℕ). first_no (qs j)) same ∙ none_each n (suc k) i qs (none_parts (qs k) (each_from (suc k) n qs) e).1 (omega arith)

-- the same of a row of questions
pub yes_at : (n i : ℕ) (qs : ℕ → List Question) → first_no (each n qs) ≡ None → i < n → Yes (qs i)
yes_at n i qs none below = none_yes (qs i) (ap (λ (k : ℕ). first_no (qs k)) (sym (zero-add i)) ∙ none_each n 0 i qs none below)
