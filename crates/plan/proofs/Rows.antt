-- Questions one part after another, and a row of them that tests by number answer. Assumes nothing.
use Rattle.std.proofs.Common.{◌≡◌, ℕ, zero, suc, ◌+◌, ◌-◌, ◌<◌, ◌≤◌, Bool, true, false, List, [], ◌∷◌, ◌++◌, IsErrAnd, MatchResult, Some, Ok, Err, Result, refl, sym, ap, ◌∙◌, arith}
use Rattle.std.proofs.lemmas.Bool.{cond-true, cond-false}
use Rattle.survey.specs.declared.refusal.Refusal.{Refusal}
use Rattle.survey.specs.Questions.{Question, ask, first_no, unless, each_from, each, told, decided}
use Rattle.survey.proofs.Asked.{first_after, first_here, passed, stopped, each_all, each_passed, each_stopped, refused_by, accepted_by}
use Rattle.plan.specs.Openings.{Passed}

-- a part of the questions, and the rest
module _ {T : Type 0} (xs ys : List Question) (v : T) where
  pub rest_decides : Ok v ≡ decided xs v → decided (xs ++ ys) v ≡ decided ys v
  rest_decides e = ap (λ o. unless o v) (first_after xs ys (passed (first_no xs) v v e).0)

  pub first_decides : (r : Refusal) → Err r ≡ decided xs v → Err r ≡ decided (xs ++ ys) v
  first_decides r e = refused_by _ v r (first_here xs ys r (stopped _ v r e))

module _ (n : ℕ) (qs : ℕ → List Question) where
  -- where the first k rows passed, those from k on decide
  left_from : (k : ℕ) → k ≤ n → ((i : ℕ) → i < k → Passed (qs i)) → first_no (each_from k (n - k) qs) ≡ first_no (each n qs)
  left_from zero within passing = let all : n - 0 ≡ n = omega arith in ap (λ (j : ℕ). first_no (each_from 0 j qs)) all
  left_from (suc k) within passing =
      let on : suc k ≡ k + 1 = omega arith in
      ap (λ (j : ℕ). first_no (each_from j (n - j) qs)) on ∙ each_passed n k qs (omega arith) (left_from k (omega arith) (λ i below. passing i (omega arith))) (passing k (omega arith))

  row_passed : ((i : ℕ) → i < n → Passed (qs i)) → Passed (each n qs)
  row_passed passing = sym (left_from n (omega arith) passing) ∙ ap first_no (each_all n n qs (omega arith))

  row_stopped : (k : ℕ) (r : Refusal) → k < n → ((i : ℕ) → i < k → Passed (qs i)) → first_no (qs k) ≡ Some r → first_no (each n qs) ≡ Some r
  row_stopped k r below passing decides = each_stopped n k qs below (left_from k (omega arith) passing) r decides

-- the questions with one number that tests by their spot answer
abbrev row : ℕ → (ℕ → Bool) → ℕ → List Question
row number answer i = ask number i (answer i) ∷ []

-- what the lowest of m tests that does not pass makes of a result
module _ {F : Type 0} (f : F → Refusal) (number n : ℕ) (answer : ℕ → Bool) {Pass Fail : ℕ → Type 0} {Given : ℕ → F → Type 0} where
  pub row_told : (m : ℕ) (r : Result (Unit {0}) ℕ) (s : Result (Unit {0}) F) → m ≡ n →
      MatchResult r (λ _. (i : ℕ) → i < m → Pass i) (λ k. (k < m) × Fail k × ((i : ℕ) → i < k → Pass i)) →
      MatchResult r (λ x. s ≡ Ok x) (λ k. IsErrAnd s (Given k)) →
      ((i : ℕ) → Pass i → true ≡ answer i) → ((i : ℕ) → Fail i → false ≡ answer i) → ((i : ℕ) (y : F) → Given i y → f y ≡ record { number = number; spot = i }) →
      told f s ≡ decided (each n (row number answer)) tt
  row_told m (Ok x) s same passed is pass fail given = ap (told f) is ∙ accepted_by _ tt x (row_passed n (row number answer) (λ i below. cond-true _ _ _ (sym (pass i (passed i (omega arith)))))) refl
  row_told m (Err k) (Ok y) same stopped is pass fail given = absurd is
  row_told m (Err k) (Err y) same stopped is pass fail given =
      refused_by _ tt _ (row_stopped n (row number answer) k (f y) (omega (arith, stopped.0)) (λ i below. cond-true _ _ _ (sym (pass i (stopped.2 i below))))
      (cond-false _ _ _ (sym (fail k stopped.1)) ∙ ap Some (sym (given k y is))))
