-- What the rules make of the worked hotel, by computing; the frontiers by the search theorem. Assumes nothing.
use Rattle.std.proofs.Common.{◌≡◌, ℕ, ◌≤◌, ◌&&◌, ltb, List, [], ◌∷◌, length, refl, subst, arith}
use Rattle.std.proofs.lemmas.Bool.{and_parts, ltb-true}
use Rattle.std.specs.Fmt.{digits}
use Rattle.costs.specs.Bag.{inserted}
use Rattle.costs.specs.Order.{before}
use Rattle.costs.specs.Kinds.{Lawful}
use Rattle.costs.proofs.Laws.{sum_lawful, worst_lawful}
use Rattle.survey.specs.Questions.{Question, ask, each}
use Rattle.survey.proofs.Asked.{none_yes}
use Rattle.plan.specs.Ways.{Building, Pair, passage, Frontier}
use Rattle.plan.specs.Rules.{Task, choice_pairs, after}
use Rattle.plan.specs.Openings.{value_questions, task_questions, Passed, FairBuilding, Fair}
use Rattle.plan.specs.Worked.{WorkedHotel, worked_task, worked_building, seconds_walls, grades_seconds, pair, task_in}
use Rattle.plan.proofs.Fairness.{each_passed, leading_fit, second_fit, asked_fair}
use Rattle.plan.proofs.Frontiers.{frontier_theorem_lem}

-- both ends of the passage are places, as a question
abbrev placed : Building → ℕ → List Question
placed b n = ask 5 n (ltb (passage b n).from b.places && ltb (passage b n).to b.places) ∷ []

-- a building of which the tests compute
fair_building : (b : Building) → Lawful b.leading → Lawful b.second → Passed (each (length b.passages) (value_questions b)) → Passed (each (length b.passages) (placed b)) → b.places ≤ 256 → length b.passages ≤ 1024 → FairBuilding b
fair_building b laws others values ends few_places few_passages = record {
  leading_laws = laws;
  second_laws = others;
  leading_fits = leading_fit b values;
  second_fits = second_fit b values;
  from_place = λ n inside. ltb-true _ _ (and_parts _ _ (none_yes (placed b n) (each_passed (length b.passages) n (placed b) ends inside)).0).0;
  to_place = λ n inside. ltb-true _ _ (and_parts _ _ (none_yes (placed b n) (each_passed (length b.passages) n (placed b) ends inside)).0).1;
  few_places = few_places;
  few_passages = few_passages;
}

fair_grades : FairBuilding worked_building
fair_grades = fair_building worked_building sum_lawful worst_lawful refl refl (omega arith) (omega arith)

-- what is shown when nothing waits is the frontier
frontier_by : (task : Task) → Fair task → (n : ℕ) (xs : List Pair) → (after task n).waiting ≡ [] → choice_pairs (after task n) ≡ xs → Frontier task.building task.start task.goal xs
frontier_by task fair n xs done shown = subst (Frontier task.building task.start task.goal) shown (frontier_theorem_lem task fair n done).frontier

fair_task : (task : Task) → FairBuilding task.building → Passed (task_questions task) → Fair task
fair_task = asked_fair.opening

pub worked_fair : Fair worked_task
worked_fair = fair_task worked_task fair_grades refl

pub worked_hotel : WorkedHotel
unfolding inserted before digits
worked_hotel = record {
  building = fair_grades;
  fair = worked_fair;
  steps = refl;
  records = refl;
  frontier = frontier_by (task_in worked_building 0 3 2048) (fair_task (task_in worked_building 0 3 2048) fair_grades refl) 7 (pair 20 5 ∷ pair 40 3 ∷ []) refl refl;
  legs = refl;
  walls = frontier_by (task_in seconds_walls 0 3 2048) (fair_task (task_in seconds_walls 0 3 2048) (fair_building seconds_walls sum_lawful sum_lawful refl refl (omega arith) (omega arith)) refl) 8 (pair 20 6 ∷ pair 40 5 ∷ []) refl refl;
  exchanged = frontier_by (task_in grades_seconds 0 3 2048) (fair_task (task_in grades_seconds 0 3 2048) (fair_building grades_seconds worst_lawful sum_lawful refl refl (omega arith) (omega arith)) refl) 8 (pair 3 40 ∷ pair 5 20 ∷ []) refl refl;
  stay = frontier_by (task_in worked_building 0 0 2048) (fair_task (task_in worked_building 0 0 2048) fair_grades refl) 1 (pair 0 0 ∷ []) refl refl;
  stay_steps = refl;
  stay_choices = refl;
  stay_legs = refl;
  back = frontier_by (task_in worked_building 3 0 2048) (fair_task (task_in worked_building 3 0 2048) fair_grades refl) 1 [] refl refl;
  back_steps = refl;
  back_choices = refl;
  two_slots = refl;
  three_slots = refl;
  no_return = refl;
  forecasts = refl;
  too_great = refl;
  not_cancelling = refl;
  sum_joins = refl;
  sum_past = refl;
  worst_joins = refl;
  worst_past = refl;
  first_minute = refl;
  next_minute = refl;
}
