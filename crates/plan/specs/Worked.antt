-- The worked hotel: Desk, Hall, Stair and Room 4, and what the rules make of it. Assumes nothing.
--   worked_building       in seconds and smoke grades
--   worked_task           from Desk to Room 4, without forecasts
--   task_in b s t n       from s to t in the building b, without forecasts, with n slots
--   answers task n        what the first n steps answer
use Rattle.std.specs.Prelude.{◌≡◌, ℕ, zero, suc, List, [], ◌∷◌, length, Some, None, Ok, Err, codes, Result}
use Rattle.costs.specs.Kinds.{sum, worst, limited}
use Rattle.survey.specs.declared.passage.Passage.{Passage}
use Rattle.survey.specs.declared.refusal.Refusal.{Refusal}
use Rattle.survey.specs.Lines.{line_two, padded}
use Rattle.survey.specs.Questions.{decided}
use Rattle.plan.specs.declared.answer.StepAnswer.{StepAnswer}
use Rattle.plan.specs.declared.answer.StepAnswer.TheVariants.{Dropped, Shown, OpenedUp}
use Rattle.plan.specs.declared.leg.Leg.{Leg}
use Rattle.plan.specs.Ways.{Building, Pair, Frontier}
use Rattle.plan.specs.Rules.{Task, stepped, choice_pairs, after}
use Rattle.plan.specs.Legs.{choice_legs}
use Rattle.plan.specs.Openings.{FairBuilding, Fair, task_questions}
use Rattle.plan.specs.Calls.{told_answer}

abbrev pub leg : ℕ → ℕ → ℕ → ℕ → Passage
leg s t v w = record { from = s; to = t; leading = v; second = w }

abbrev pub worked_building : Building
worked_building = record { leading = sum; second = worst; places = 4; passages = leg 0 1 10 5 ∷ leg 0 2 20 2 ∷ leg 1 3 10 1 ∷ leg 2 3 20 3 ∷ leg 1 2 5 0 ∷ [] }

abbrev pub worked_task : Task
worked_task = record { building = worked_building; start = 0; goal = 3; leading = 0 ∷ 0 ∷ 0 ∷ 0 ∷ []; second = 0 ∷ 0 ∷ 0 ∷ 0 ∷ []; slots = 2048 }

abbrev pub pair : ℕ → ℕ → Pair
pair m n = record { lead = m; second = n }

-- seconds and walls pierced, with the same values
abbrev pub seconds_walls : Building
seconds_walls = record { leading = sum; second = sum; places = 4; passages = worked_building.passages }

-- smoke grades and seconds, with the values exchanged
abbrev pub grades_seconds : Building
grades_seconds = record {
  leading = worst;
  second = sum;
  places = 4;
  passages = leg 0 1 5 10 ∷ leg 0 2 2 20 ∷ leg 1 3 1 10 ∷ leg 2 3 3 20 ∷ leg 1 2 0 5 ∷ [];
}

-- a passage from a place to itself, and one to the goal
abbrev pub with_loop : Building
with_loop = record { leading = sum; second = sum; places = 2; passages = leg 0 0 1 1 ∷ leg 0 1 1 1 ∷ [] }

abbrev pub no_forecasts : List ℕ
no_forecasts = 0 ∷ 0 ∷ 0 ∷ 0 ∷ []

abbrev pub task_in : Building → ℕ → ℕ → ℕ → Task
task_in b s t n = record { building = b; start = s; goal = t; leading = no_forecasts; second = no_forecasts; slots = n }

-- from Desk to Room 4, with leading forecasts
abbrev pub forecast_task : Building → List ℕ → Task
forecast_task b forecasts = record { building = b; start = 0; goal = 3; leading = forecasts; second = no_forecasts; slots = 2048 }

abbrev pub answers_from : Task → ℕ → ℕ → List (Result StepAnswer Refusal)
answers_from task k zero = []
answers_from task k (suc n) = told_answer (stepped task (after task k)).answer ∷ answers_from task (suc k) n

abbrev pub answers : Task → ℕ → List (Result StepAnswer Refusal)
answers task n = answers_from task 0 n

-- what an opening answers
abbrev pub asked : Task → Result (Unit {0}) Refusal
asked task = decided (task_questions task) tt

abbrev pub refused : {T : Type 0} → ℕ → ℕ → Result T Refusal
refused n s = Err (record { number = n; spot = s })

abbrev pub leg_by : ℕ → ℕ → ℕ → ℕ → Leg
leg_by n p m s = record { passage = n; place = p; leading = m; second = s }

pub record WorkedHotel : Type 0 where
  -- from Desk to Room 4
  pub building : FairBuilding worked_building
  pub fair : Fair (task_in worked_building 0 3 2048)
  pub steps : answers (task_in worked_building 0 3 2048) 8 ≡ Ok (OpenedUp 2) ∷ Ok (OpenedUp 2) ∷ Ok (OpenedUp 1) ∷ Ok (OpenedUp 1) ∷ Ok Shown ∷ Ok Dropped ∷ Ok Shown ∷ refused 20 0 ∷ []
  pub records : length (after (task_in worked_building 0 3 2048) 7).records ≡ 7
  pub frontier : Frontier worked_building 0 3 (pair 20 5 ∷ pair 40 3 ∷ [])
  pub legs : choice_legs (after (task_in worked_building 0 3 2048) 7) 0 ≡ leg_by 0 1 10 5 ∷ leg_by 2 3 20 5 ∷ []
  -- in other kinds
  pub walls : Frontier seconds_walls 0 3 (pair 20 6 ∷ pair 40 5 ∷ [])
  pub exchanged : Frontier grades_seconds 0 3 (pair 3 40 ∷ pair 5 20 ∷ [])
  -- from a place to itself, and to one that no way reaches
  pub stay : Frontier worked_building 0 0 (pair 0 0 ∷ [])
  pub stay_steps : answers (task_in worked_building 0 0 2048) 2 ≡ Ok Shown ∷ refused 20 0 ∷ []
  pub stay_choices : choice_pairs (after (task_in worked_building 0 0 2048) 1) ≡ pair 0 0 ∷ []
  pub stay_legs : choice_legs (after (task_in worked_building 0 0 2048) 1) 0 ≡ []
  pub back : Frontier worked_building 3 0 []
  pub back_steps : answers (task_in worked_building 3 0 2048) 2 ≡ Ok (OpenedUp 0) ∷ refused 20 0 ∷ []
  pub back_choices : choice_pairs (after (task_in worked_building 3 0 2048) 1) ≡ []
  -- with few slots
  pub two_slots : answers (task_in worked_building 0 3 2) 1 ≡ refused 21 0 ∷ []
  pub three_slots : answers (task_in worked_building 0 3 3) 1 ≡ Ok (OpenedUp 2) ∷ []
  -- a child at its parent's own place is useless from the start, and takes no record
  pub no_return : answers (record { building = with_loop; start = 0; goal = 1; leading = 0 ∷ 0 ∷ []; second = 0 ∷ 0 ∷ []; slots = 2 }) 1 ≡ Ok (OpenedUp 1) ∷ []
  -- with forecasts
  pub forecasts : asked (forecast_task worked_building (20 ∷ 10 ∷ 20 ∷ 0 ∷ [])) ≡ Ok tt
  pub too_great : asked (forecast_task worked_building (21 ∷ 10 ∷ 20 ∷ 0 ∷ [])) ≡ refused 18 0
  pub not_cancelling : asked (forecast_task grades_seconds (0 ∷ 1 ∷ 0 ∷ 0 ∷ [])) ≡ refused 17 1
  -- joins
  pub sum_joins : limited sum 1999999999 1 ≡ Some 2000000000
  pub sum_past : limited sum 1999999999 2 ≡ None
  pub worst_joins : limited worst 7 12 ≡ Some 12
  pub worst_past : limited worst 7 16 ≡ None
  -- minutes on a repeater
  pub first_minute : line_two 59 ≡ padded (codes "0 min")
  pub next_minute : line_two 119 ≡ padded (codes "1 min")
