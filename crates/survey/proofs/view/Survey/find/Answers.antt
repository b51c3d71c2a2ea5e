use Rattle.std.proofs.Common.{◌≡◌, ℕ, ◌<◌, ◌≤◌, ◌≢◌, List, Some, None, Option, MatchOption, ap, arith, rules, tests}
use Rattle.std.proofs.lemmas.Iterator.{first_from_Range}
use Rattle.survey.specs.declared.layout.Layout.{Layout}
use Rattle.survey.specs.File.{label_at, places}
use Rattle.survey.specs.View.{file, Lowest}
use Rattle.survey.proofs.view.Survey.find.Goals as goal

-- what `find` over a range says, which begins at 0
lowest : (bs l : List ℕ) (n : ℕ) (r : Option ℕ) → n ≡ places bs → MatchOption r ((k : ℕ) → 0 ≤ k → k < n → label_at bs k ≢ l) (λ i. (0 ≤ i) × (i < n) × (label_at bs i ≡ l) × ((k : ℕ) → 0 ≤ k → k < i → label_at bs k ≢ l)) → Lowest bs l r
lowest bs l n None many none = λ k below. none k (omega arith) (omega arith)
lowest bs l n (Some i) many found = (omega (arith, found.1), found.2, λ k below. found.3 k (omega arith) below)

pub returns : goal.returns
returns c =
    let bs = file c.args.self.now in
    let l = c.args.label.now in
    lowest bs l _ c.find.result (ap (λ (h : Layout). h.places) c.args.self.now.header)
    (first_from_Range _ _ _ _ (λ p. label_at bs p ≡ l) (λ p. label_at bs p ≢ l) c.find.ensures.ran (λ x q k. search (rules, tests)) (λ x q k. search (rules, tests)))
