-- What loading and opening ask, and what their questions make sure of. Assumes nothing.
--   fits k n c            n is a value of the kind k within the ceiling c
--   building_of k m bs    what a survey bs is loaded as, for the kinds k and m
--   load_questions l m b  the questions 9 and 10 of a building whose survey has the letters l and m
--   task_questions task   the questions 12 to 18 of an opening
--   FairBuilding b        what holds of a building that was loaded
--   Fair task             what holds of a task that passed the questions
--   Passed qs             no question of qs is answered "no"
use Rattle.std.specs.Prelude.{◌≡◌, ℕ, ◌<◌, ◌≤◌, Bool, true, ◌&&◌, ◌||◌, ◌⊎◌, List, [], ◌∷◌, ◌++◌, map, length, None, ◌==◌, nat_le, nat_lt, slice_index, slice_index_or}
use Rattle.std.specs.List.{range_with_len}
use Rattle.costs.specs.Kinds.{Kind, Lawful}
use Rattle.survey.specs.declared.passage.Passage.{Passage}
use Rattle.survey.specs.File.{places, passages, passage_in}
use Rattle.survey.specs.Questions.{Question, ask, each, first_no}
use Rattle.survey.specs.Reading.{WellFormed}
use Rattle.plan.specs.Ways.{Building, passage}
use Rattle.plan.specs.Rules.{Task}

abbrev pub fits : Kind → ℕ → ℕ → Bool
fits k n c = k.is_value n && nat_le n c

-- the passages of a survey, by their numbers
abbrev pub passage_list : List ℕ → List Passage
passage_list bs = map (passage_in bs) (range_with_len 0 (passages bs))

abbrev pub building_of : Kind → Kind → List ℕ → Building
building_of k m bs = record { leading = k; second = m; places = places bs; passages = passage_list bs }

abbrev pub values_fit : Kind → Kind → Passage → Bool
values_fit k m p = fits k p.leading k.passage_ceiling && fits m p.second m.passage_ceiling

abbrev pub value_questions : Building → ℕ → List Question
value_questions b n = ask 10 n (values_fit b.leading b.second (passage b n)) ∷ []

abbrev pub letter_questions : ℕ → ℕ → Building → List Question
letter_questions l m b = ask 9 0 (b.leading.is_letter l && b.second.is_letter m) ∷ []

abbrev pub load_questions : ℕ → ℕ → Building → List Question
load_questions l m b = letter_questions l m b ++ each (length b.passages) (value_questions b)

abbrev pub lead_forecast : Task → ℕ → ℕ
lead_forecast task s = slice_index task.leading s

abbrev pub second_forecast : Task → ℕ → ℕ
second_forecast task s = slice_index task.second s

-- the forecast f of a place that the passage leaves is at most its value v joined with the forecast g behind it
abbrev pub consistent : Kind → ℕ → ℕ → ℕ → Bool
consistent k f v g = nat_le f (k.joined v g)

abbrev pub end_questions : Task → List Question
end_questions task =
    ask 12 0 (nat_lt task.start task.building.places && nat_lt task.goal task.building.places) ∷
    ask 13 0 (nat_lt 0 task.slots) ∷
    ask 14 0 (length task.leading == task.building.places && length task.second == task.building.places) ∷ []

abbrev pub forecast_questions : Task → ℕ → List Question
forecast_questions task s =
    ask 15 s (fits task.building.leading (lead_forecast task s) task.building.leading.forecast_ceiling && fits task.building.second (second_forecast task s) task.building.second.forecast_ceiling) ∷ []

abbrev pub goal_questions : Task → List Question
goal_questions task = ask 16 0 (lead_forecast task task.goal == 0 && second_forecast task task.goal == 0) ∷ []

abbrev pub leading_questions : Task → ℕ → List Question
leading_questions task s = ask 17 s (task.building.leading.cancels || lead_forecast task s == 0) ∷ []

abbrev pub consistent_questions : Task → ℕ → List Question
consistent_questions task n =
    ask 18 n (consistent task.building.leading (lead_forecast task (passage task.building n).from) (passage task.building n).leading (lead_forecast task (passage task.building n).to) && consistent task.building.second (second_forecast task (passage task.building n).from) (passage task.building n).second (second_forecast task (passage task.building n).to)) ∷ []

-- 17 and 18
abbrev pub agree_questions : Task → List Question
agree_questions task = each task.building.places (leading_questions task) ++ each (length task.building.passages) (consistent_questions task)

-- 15 to 18
abbrev pub list_questions : Task → List Question
list_questions task = each task.building.places (forecast_questions task) ++ (goal_questions task ++ agree_questions task)

abbrev pub task_questions : Task → List Question
task_questions task = end_questions task ++ list_questions task

abbrev pub Passed : List Question → Type 0
Passed qs = first_no qs ≡ None

pub record Fits (k : Kind) (n c : ℕ) : Type 0 where
  pub value : k.is_value n ≡ true
  pub within : n ≤ c

pub record FairBuilding (b : Building) : Type 0 where
  pub leading_laws : Lawful b.leading
  pub second_laws : Lawful b.second
  pub leading_fits : (n : ℕ) → n < length b.passages → Fits b.leading (passage b n).leading b.leading.passage_ceiling
  pub second_fits : (n : ℕ) → n < length b.passages → Fits b.second (passage b n).second b.second.passage_ceiling
  pub from_place : (n : ℕ) → n < length b.passages → (passage b n).from < b.places
  pub to_place : (n : ℕ) → n < length b.passages → (passage b n).to < b.places
  pub few_places : b.places ≤ 256
  pub few_passages : length b.passages ≤ 1024

-- a forecast list for one cost, with the values of that cost
pub record FairForecast (k : Kind) (b : Building) (goal : ℕ) (value : ℕ → ℕ) (forecast : List ℕ) : Type 0 where
  pub fits : (s : ℕ) → s < b.places → Fits k (slice_index forecast s) k.forecast_ceiling
  pub goal_zero : slice_index_or forecast goal 0 ≡ 0
  pub consistent : (n : ℕ) → n < length b.passages → slice_index forecast (passage b n).from ≤ k.joined (value n) (slice_index forecast (passage b n).to)

pub record Fair (task : Task) : Type 0 where
  pub leading_laws : Lawful task.building.leading
  pub second_laws : Lawful task.building.second
  pub leading_fits : (n : ℕ) → n < length task.building.passages → Fits task.building.leading (passage task.building n).leading task.building.leading.passage_ceiling
  pub second_fits : (n : ℕ) → n < length task.building.passages → Fits task.building.second (passage task.building n).second task.building.second.passage_ceiling
  pub from_place : (n : ℕ) → n < length task.building.passages → (passage task.building n).from < task.building.places
  pub to_place : (n : ℕ) → n < length task.building.passages → (passage task.building n).to < task.building.places
  pub few_places : task.building.places ≤ 256
  pub start_place : task.start < task.building.places
  pub goal_place : task.goal < task.building.places
  pub some_slot : 0 < task.slots
  pub leading_long : length task.leading ≡ task.building.places
  pub second_long : length task.second ≡ task.building.places
  pub leading_fair : FairForecast task.building.leading task.building task.goal (λ n. (passage task.building n).leading) task.leading
  pub second_fair : FairForecast task.building.second task.building task.goal (λ n. (passage task.building n).second) task.second
  pub told : (task.building.leading.cancels ≡ true) ⊎ ((s : ℕ) → s < task.building.places → slice_index task.leading s ≡ 0)

-- what loading and opening accept is fair, whatever the kinds, as long as they keep the laws
pub record AskedFair : Type 0 where
  pub loading : (k m : Kind) (bs : List ℕ) (l s : ℕ) → Lawful k → Lawful m → WellFormed bs → Passed (load_questions l s (building_of k m bs)) → FairBuilding (building_of k m bs)
  pub opening : (task : Task) → FairBuilding task.building → Passed (task_questions task) → Fair task
