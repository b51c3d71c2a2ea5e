-- Calls made on an opened plan one after another, and what is promised of every list of them. Assumes nothing.
--   Event                 a step, a look-up or a way listing, with its answer
--   Runs p es q           the calls es, made on the plan p one after another, gave their answers and left the plan q
--   Asked run             each call of the run was refused by the first "no" of its questions, or by none
--   answers_in es         the answers of the accepted steps, in order
--   Shows p xs            look-ups on p from 0 up give the pairs xs, and then refusal 22
--   Kept b s t es q       the promise of one plan: after the calls es it is q
--   Same es q es' q'      the promise of two plans that are alike
--   Promised              both, for every two kinds and makes of open list
use Rattle.std.specs.Prelude.{◌≡◌, ℕ, ◌<◌, ◌≤◌, List, [], ◌∷◌, length, get_or, take, drop, Some, None, Ok, Err, Option, Result, slice_index_or}
use Rattle.std.specs.List.{ContainsAt as Has}
use Rattle.costs.specs.declared.kind.CostKind as kinds
use Rattle.costs.specs.declared.open_list.OpenList as lists
use Rattle.survey.specs.declared.refusal.Refusal.{Refusal}
use Rattle.survey.specs.Questions.{first_no}
use Rattle.plan.specs.declared.answer.StepAnswer.{StepAnswer}
use Rattle.plan.specs.declared.counts.Counts.{Counts}
use Rattle.plan.specs.declared.fault.PlanFault.{PlanFault}
use Rattle.plan.specs.declared.fault.PlanFault.TheVariants.{Complete, NoChoice}
use Rattle.plan.specs.declared.leg.Leg.{Leg}
use Rattle.plan.specs.declared.state.Ends.{Ends}
use Rattle.plan.specs.declared.state.Plan.{Plan}
use Rattle.plan.specs.Faults.{plan_refusal}
use Rattle.plan.specs.Ways.{Building, Pair, FirstOnes}
use Rattle.plan.specs.Legs.{WayWith}
use Rattle.plan.specs.Promise.{Dominated}
use Rattle.plan.specs.Stages.{stage}
use Rattle.plan.specs.Views.{Stage, loaded, opened, bare}
use Rattle.plan.specs.Calls.{Opening, Step, LookUp, Listing, Finish, step_questions, choice_questions, way_questions}

pub data Event : Type 0 where
  step : Result StepAnswer PlanFault → Event
  look : ℕ → Result (ℕ × ℕ) PlanFault → Event
  list : ℕ → List Leg → Result ℕ PlanFault → List Leg → Event

-- the refusal of an answer, if it is one
abbrev pub refusal_in : {T : Type 0} → Result T PlanFault → Option Refusal
refusal_in (Ok _) = None
refusal_in (Err fault) = Some (plan_refusal fault)

abbrev pub answers_in : List Event → List StepAnswer
answers_in [] = []
answers_in (step (Ok a) ∷ es) = a ∷ answers_in es
answers_in (step (Err f) ∷ es) = answers_in es
answers_in (look i r ∷ es) = answers_in es
answers_in (list i legs r legs' ∷ es) = answers_in es

-- the building that a plan has loaded, if it has one
abbrev pub building_at : Stage → Option Building
building_at bare = None
building_at (loaded b) = Some b
building_at (opened task s) = Some task.building

module _ {A B Q : Type 0} {a : kinds.Ghosts A} {b : kinds.Ghosts B} {l : lists.Ghosts Q} where
  pub data Runs : Plan A B Q a b l → List Event → Plan A B Q a b l → Type 0 where
    none : (p : Plan A B Q a b l) → Runs p [] p
    stepping : (p q : Plan A B Q a b l) (r : Result StepAnswer PlanFault) {es : List Event} {z : Plan A B Q a b l} → Step p r q → Runs q es z → Runs p (step r ∷ es) z
    looking : (p : Plan A B Q a b l) (i : ℕ) (r : Result (ℕ × ℕ) PlanFault) {es : List Event} {z : Plan A B Q a b l} → LookUp p i r → Runs p es z → Runs p (look i r ∷ es) z
    listing : (p : Plan A B Q a b l) (i : ℕ) (legs : List Leg) (r : Result ℕ PlanFault) (legs' : List Leg) {es : List Event} {z : Plan A B Q a b l} → Listing p i legs r legs' → Runs p es z → Runs p (list i legs r legs' ∷ es) z

  abbrev pub Asked : {p : Plan A B Q a b l} {es : List Event} {q : Plan A B Q a b l} → Runs p es q → Type 0
  Asked (none p) = Unit {0}
  Asked (stepping p q r made run) = (first_no (step_questions (stage p)) ≡ refusal_in r) × Asked run
  Asked (looking p i r made run) = (first_no (choice_questions (stage p) i) ≡ refusal_in r) × Asked run
  Asked (listing p i legs r legs' made run) = (first_no (way_questions (stage p) i (length legs)) ≡ refusal_in r) × Asked run

  pub record Shows (p : Plan A B Q a b l) (xs : List Pair) : Type 0 where
    pub each : (i : ℕ) (r : Result (ℕ × ℕ) PlanFault) (d : Pair) → LookUp p i r → i < length xs → r ≡ Ok ((get_or xs i d).lead, (get_or xs i d).second)
    pub then_none : (i : ℕ) (r : Result (ℕ × ℕ) PlanFault) → LookUp p i r → length xs ≤ i → r ≡ Err NoChoice

  -- between s and t of the building c, after the calls es, which left the plan q
  pub record Kept (c : Building) (s t : ℕ) (es : List Event) (q : Plan A B Q a b l) : Type 0 where
    -- the choices shown are the first ones of the frontier
    pub shown : List Pair
    pub looked_up : Shows q shown
    pub first_ones : FirstOnes c s t shown
    -- each listing accepted gives a way from start to goal with exactly its choice's totals, and keeps the legs behind it
    pub ways : (i n : ℕ) (legs legs' : List Leg) (d : Pair) → Has es (list i legs (Ok n) legs') → (i < length shown) × WayWith c s t (slice_index_or shown i d) (take n legs') × (drop n legs' ≡ drop n legs)
    -- at most 2,048 steps are accepted
    pub few_steps : length (answers_in es) ≤ 2048
    -- once a step is refused as complete, every way costs at least as much, in both totals, as some choice shown
    pub complete : Has es (step (Err Complete)) → Dominated c s t shown

  -- an opening between the ends was accepted on a plan that has the building c loaded, and left p
  pub record Begun (c : Building) (ends : Ends) (leading second : List ℕ) (slots : ℕ) (p : Plan A B Q a b l) : Type 0 where
    pub before : Plan A B Q a b l
    pub building : building_at (stage before) ≡ Some c
    pub slots_are : l.slots before.list ≡ slots
    pub opening : Opening before ends leading second (Ok tt) p

-- two plans of any makes whose accepted steps are as many
module _ {A B P Q : Type 0} {a : kinds.Ghosts A} {b : kinds.Ghosts B} {l : lists.Ghosts P} {m : lists.Ghosts Q} where
  pub record Same (es : List Event) (p : Plan A B P a b l) (es' : List Event) (q : Plan A B Q a b m) : Type 0 where
    pub answers : answers_in es ≡ answers_in es'
    pub choices : (i : ℕ) (r r' : Result (ℕ × ℕ) PlanFault) → LookUp p i r → LookUp q i r' → r ≡ r'
    pub ways : (i : ℕ) (lent left left' : List Leg) (r r' : Result ℕ PlanFault) → Listing p i lent r left → Listing q i lent r' left' → (r ≡ r') × (left ≡ left')
    pub counts : (c c' : Counts) → Finish p c → Finish q c' → c ≡ c'

module _ {A B P Q : Type 0} (a : kinds.Ghosts A) (b : kinds.Ghosts B) (l : lists.Ghosts P) (m : lists.Ghosts Q) where
  pub record Promised : Type 0 where
    -- for every plan right after an accepted opening, whatever came before it, and every list of calls made on it
    pub kept : (building : Building) (ends : Ends) (leading second : List ℕ) (slots : ℕ) (p q : Plan A B P a b l) (es : List Event) → Begun building ends leading second slots p → Runs p es q →
        Kept building ends.start ends.goal es q
    -- each call is refused by its question or not at all
    pub asked : (building : Building) (ends : Ends) (leading second : List ℕ) (slots : ℕ) (p q : Plan A B P a b l) (es : List Event) → Begun building ends leading second slots p → (run : Runs p es q) → Asked run
    -- plans alike in building, ends, forecasts, slots and number of accepted steps
    pub same : (building : Building) (ends : Ends) (leading second : List ℕ) (slots : ℕ) (p q : Plan A B P a b l) (p' q' : Plan A B Q a b m) (es es' : List Event) →
        Begun building ends leading second slots p → Runs p es q →
        Begun building ends leading second slots p' → Runs p' es' q' →
        length (answers_in es) ≡ length (answers_in es') → Same es q es' q'
