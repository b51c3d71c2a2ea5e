-- A task is a problem of the abstract search. Assumes nothing.
use Rattle.std.proofs.Common.{◌≡◌, ℕ, ◌<◌, ◌≤◌, true, ◌⊎◌, List, length, get_or, sym, refl, ap, ◌∙◌, subst, inl, inr, arith}
use Rattle.std.proofs.lemmas.List.{get_or_past}
use Rattle.std.proofs.lemmas.Bool.{cases_lt, cases_eq}
use Rattle.costs.specs.Kinds.{Kind, Lawful}
use Rattle.plan.specs.Ways.{Building, passage}
use Rattle.plan.specs.Rules.{Task}
use Rattle.plan.specs.Openings.{FairForecast, Fair}
use Rattle.plan.proofs.Measures.{Algebra, Graph, Measure, estimate}
use Rattle.plan.proofs.Search.{Problem}

-- the values of a kind, as totals
abbrev pub Value : Kind → Type 0
Value k = (n : ℕ) × (k.is_value n ≡ true)

abbrev pub algebra_of : (k : Kind) → Lawful k → Algebra
algebra_of k laws = record {
  Total = Value k;
  size = λ a. a.0;
  none = (0, laws.zero_value);
  join = λ a b. (k.joined a.0 b.0, laws.closed a.0 b.0 a.1 b.1);
  none_size = refl;
  none_left = λ a. laws.zero_left a.0 a.1;
  none_right = λ a. laws.zero_right a.0 a.1;
  assoc = λ a b c. laws.assoc a.0 b.0 c.0 a.1 b.1 c.1;
  mono_left = λ a b c le. laws.mono_left a.0 b.0 c.0 a.1 b.1 c.1 le;
  mono_right = λ a b c le. laws.mono_right a.0 b.0 c.0 a.1 b.1 c.1 le;
}

abbrev pub graph_of : Building → Graph
graph_of b = record {
  Edge = (n : ℕ) × (n < length b.passages);
  from = λ e. (passage b e.0).from;
  to = λ e. (passage b e.0).to;
}

-- one cost of a building with its forecasts
module _ (k : Kind) (laws : Lawful k) (b : Building) (goal : ℕ) (value : ℕ → ℕ) (forecast : List ℕ) (values : (n : ℕ) → n < length b.passages → k.is_value (value n) ≡ true) (long : length forecast ≡ b.places) (fair : FairForecast k b goal value forecast) where
  pub forecast_value : (s : ℕ) → k.is_value (get_or forecast s 0) ≡ true
  forecast_value s =
      elim (cases_lt s b.places) [
        | inl inside ↦ (fair.fits s inside).value
        | inr outside ↦ subst (λ (n : ℕ). k.is_value n ≡ true) (sym (get_or_past forecast s 0 (omega arith))) laws.zero_value
      ]

  abbrev pub measure_of : Measure (graph_of b)
  measure_of = record {
    algebra = algebra_of k laws;
    cost = λ e. (value e.0, values e.0 e.1);
    forecast = λ s. (get_or forecast s 0, forecast_value s);
  }

  -- leading estimates tell leading totals apart, where the kind cancels or no forecast is made
  pub tells : (k.cancels ≡ true) ⊎ ((s : ℕ) → s < b.places → get_or forecast s 0 ≡ 0) → (a c : Value k) (s : ℕ) → estimate measure_of a s ≤ estimate measure_of c s → a.0 ≤ c.0
  tells (inl cancels) a c s le =
      elim (cases_lt c.0 a.0) [
        | inl less ↦ absurd (omega (arith, laws.strict cancels c.0 a.0 (get_or forecast s 0) c.1 a.1 (forecast_value s) less))
        | inr ok ↦ ok
      ]
  tells (inr none_made) a c s le =
      let zero_there : get_or forecast s 0 ≡ 0 =
      elim (cases_lt s b.places) [ inl inside ↦ none_made s inside | inr outside ↦ get_or_past forecast s 0 (omega arith) ] in
      let flat_a = ap (λ (n : ℕ). k.joined a.0 n) zero_there ∙ laws.zero_right a.0 a.1 in
      let flat_c = ap (λ (n : ℕ). k.joined c.0 n) zero_there ∙ laws.zero_right c.0 c.1 in
      omega (arith, le, flat_a, flat_c)

module _ (task : Task) (fair : Fair task) where
  abbrev pub lead_measure : Measure (graph_of task.building)
  lead_measure =
      measure_of task.building.leading fair.leading_laws task.building task.goal (λ n. (passage task.building n).leading) task.leading
      (λ n h. (fair.leading_fits n h).value) fair.leading_long fair.leading_fair

  abbrev pub second_measure : Measure (graph_of task.building)
  second_measure =
      measure_of task.building.second fair.second_laws task.building task.goal (λ n. (passage task.building n).second) task.second
      (λ n h. (fair.second_fits n h).value) fair.second_long fair.second_fair

  abbrev pub problem_of : Problem
  problem_of = record {
    graph = graph_of task.building;
    lead = lead_measure;
    second = second_measure;
    start = task.start;
    Ends = λ s. s ≡ task.goal;
    Asked = λ t. t ≡ task.goal;
    ends_or_not = λ s. cases_eq s task.goal;
    aimed = λ s t ends asked. ends ∙ sym asked;
    lead_consistent = λ e. fair.leading_fair.consistent e.0 e.1;
    second_consistent = λ e. fair.second_fair.consistent e.0 e.1;
    lead_none = λ t asked. ap (λ (s : ℕ). get_or task.leading s 0) asked ∙ fair.leading_fair.goal_zero;
    second_none = λ t asked. ap (λ (s : ℕ). get_or task.second s 0) asked ∙ fair.second_fair.goal_zero;
    lead_told = tells task.building.leading fair.leading_laws task.building task.goal (λ n. (passage task.building n).leading) task.leading
        (λ n h. (fair.leading_fits n h).value) fair.leading_long fair.leading_fair fair.told;
  }
