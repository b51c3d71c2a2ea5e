-- What loading and opening accept is fair. Assumes nothing.
use Rattle.std.proofs.Common.{◌≡◌, ℕ, ◌<◌, true, ◌⊎◌, List, ◌++◌, length, ap, subst, inl, inr, zero-add, arith}
use Rattle.std.proofs.lemmas.List.FromFn.{length-map-range_with_len, get_or-map-range_with_len}
use Rattle.std.proofs.lemmas.Bool.{cases_Bool, both_ways, and_parts, or_cases, leb-true, ltb-true, eqb-true}
use Rattle.costs.specs.Kinds.{Kind, Lawful}
use Rattle.survey.specs.declared.passage.Passage.{Passage}
use Rattle.survey.specs.File.{passages, passage_in}
use Rattle.survey.specs.Questions.{Question, each}
use Rattle.survey.specs.Reading.{WellFormed}
use Rattle.survey.proofs.Asked.{none_parts, none_yes, none_each}
use Rattle.plan.specs.Ways.{Building, passage, no_passage}
use Rattle.plan.specs.Rules.{Task}
use Rattle.plan.specs.Openings.{fits, building_of, value_questions, letter_questions, load_questions, lead_forecast, second_forecast, consistent, end_questions, forecast_questions, goal_questions, leading_questions, consistent_questions, agree_questions, list_questions, task_questions, Passed, Fits, FairBuilding, Fair, AskedFair}

-- where each of n rows of questions passed, the row i did
pub each_passed : (n i : ℕ) (qs : ℕ → List Question) → Passed (each n qs) → i < n → Passed (qs i)
each_passed n i qs passed inside = subst (λ (k : ℕ). Passed (qs k)) (zero-add i) (none_each n 0 i qs passed inside)

pub fits_is : (k : Kind) (n c : ℕ) → fits k n c ≡ true → Fits k n c
fits_is k n c e = let both = and_parts _ _ e in record { value = both.0; within = leb-true n c both.1 }

module _ (b : Building) (passed : Passed (each (length b.passages) (value_questions b))) where
  both_fit : (n : ℕ) → n < length b.passages → (fits b.leading (passage b n).leading b.leading.passage_ceiling ≡ true) × (fits b.second (passage b n).second b.second.passage_ceiling ≡ true)
  both_fit n inside = and_parts _ _ (none_yes (value_questions b n) (each_passed (length b.passages) n (value_questions b) passed inside)).0

  pub leading_fit : (n : ℕ) → n < length b.passages → Fits b.leading (passage b n).leading b.leading.passage_ceiling
  leading_fit n inside = fits_is _ _ _ (both_fit n inside).0

  pub second_fit : (n : ℕ) → n < length b.passages → Fits b.second (passage b n).second b.second.passage_ceiling
  second_fit n inside = fits_is _ _ _ (both_fit n inside).1

module _ (k m : Kind) (bs : List ℕ) where
  pub loaded_length : length (building_of k m bs).passages ≡ passages bs
  loaded_length = length-map-range_with_len (passage_in bs) 0 (passages bs)

  pub loaded_passage : (n : ℕ) → n < passages bs → passage (building_of k m bs) n ≡ passage_in bs n
  loaded_passage n inside = get_or-map-range_with_len (passage_in bs) 0 (passages bs) n n no_passage inside (zero-add n)

  loading_fair : (l s : ℕ) → Lawful k → Lawful m → WellFormed bs → Passed (load_questions l s (building_of k m bs)) → FairBuilding (building_of k m bs)
  loading_fair l s laws others formed passed =
      let values = (none_parts (letter_questions l s (building_of k m bs)) (each (length (building_of k m bs).passages) (value_questions (building_of k m bs))) passed).1 in
      record {
        leading_laws = laws;
        second_laws = others;
        leading_fits = leading_fit (building_of k m bs) values;
        second_fits = second_fit (building_of k m bs) values;
        from_place = λ n inside. let there : n < passages bs = omega (arith, loaded_length) in omega (arith, ap (λ (p : Passage). p.from) (loaded_passage n there), formed.from_place n there);
        to_place = λ n inside. let there : n < passages bs = omega (arith, loaded_length) in omega (arith, ap (λ (p : Passage). p.to) (loaded_passage n there), formed.to_place n there);
        few_places = formed.few_places;
        few_passages = omega (arith, loaded_length, formed.few_passages);
      }

module _ (task : Task) (fair : FairBuilding task.building) (passed : Passed (task_questions task)) where
  abbrev places : ℕ
  places = task.building.places

  abbrev many : ℕ
  many = length task.building.passages

  record Parts : Type 0 where
    ends : Passed (end_questions task)
    forecasts : Passed (each places (forecast_questions task))
    goals : Passed (goal_questions task)
    leading : Passed (each places (leading_questions task))
    agree : Passed (each many (consistent_questions task))

  parts : Parts
  parts =
      let a = none_parts (end_questions task) (list_questions task) passed in
      let b = none_parts (each places (forecast_questions task)) (goal_questions task ++ agree_questions task) a.1 in
      let c = none_parts (goal_questions task) (agree_questions task) b.1 in
      let d = none_parts (each places (leading_questions task)) (each many (consistent_questions task)) c.1 in
      record { ends = a.0; forecasts = b.0; goals = c.0; leading = d.0; agree = d.1 }

  both_forecasts : (s : ℕ) → s < places → (fits task.building.leading (lead_forecast task s) task.building.leading.forecast_ceiling ≡ true) × (fits task.building.second (second_forecast task s) task.building.second.forecast_ceiling ≡ true)
  both_forecasts s inside = and_parts _ _ (none_yes (forecast_questions task s) (each_passed places s (forecast_questions task) parts.forecasts inside)).0

  both_agree : (n : ℕ) → n < many →
      (consistent task.building.leading (lead_forecast task (passage task.building n).from) (passage task.building n).leading (lead_forecast task (passage task.building n).to) ≡ true) ×
      (consistent task.building.second (second_forecast task (passage task.building n).from) (passage task.building n).second (second_forecast task (passage task.building n).to) ≡ true)
  both_agree n inside = and_parts _ _ (none_yes (consistent_questions task n) (each_passed many n (consistent_questions task) parts.agree inside)).0

  told_by : (task.building.leading.cancels ≡ true) ⊎ ((s : ℕ) → s < places → lead_forecast task s ≡ 0)
  told_by =
      elim (cases_Bool task.building.leading.cancels) [
        | inl cancels ↦ inl cancels
        | inr not_so ↦ inr (λ s inside.
            elim (or_cases _ _ (none_yes (leading_questions task s) (each_passed places s (leading_questions task) parts.leading inside)).0) [
              | inl cancels ↦ absurd (both_ways _ not_so cancels)
              | inr none_made ↦ eqb-true _ _ none_made
            ])
      ]

  opening_fair : Fair task
  opening_fair =
      let ends = none_yes (end_questions task) parts.ends in
      let places_there = and_parts _ _ ends.0 in
      let long = and_parts _ _ ends.1.1.0 in
      let zero_there = and_parts _ _ (none_yes (goal_questions task) parts.goals).0 in
      record {
        leading_laws = fair.leading_laws;
        second_laws = fair.second_laws;
        leading_fits = fair.leading_fits;
        second_fits = fair.second_fits;
        from_place = fair.from_place;
        to_place = fair.to_place;
        few_places = fair.few_places;
        start_place = ltb-true _ _ places_there.0;
        goal_place = ltb-true _ _ places_there.1;
        some_slot = ltb-true _ _ ends.1.0;
        leading_long = eqb-true _ _ long.0;
        second_long = eqb-true _ _ long.1;
        leading_fair = record {
          fits = λ s inside. fits_is _ _ _ (both_forecasts s inside).0;
          goal_zero = eqb-true _ _ zero_there.0;
          consistent = λ n inside. leb-true _ _ (both_agree n inside).0;
        };
        second_fair = record {
          fits = λ s inside. fits_is _ _ _ (both_forecasts s inside).1;
          goal_zero = eqb-true _ _ zero_there.1;
          consistent = λ n inside. leb-true _ _ (both_agree n inside).1;
        };
        told = told_by;
      }

pub asked_fair : AskedFair
asked_fair = record { loading = loading_fair; opening = opening_fair }
