-- What each call of a plan answers and leaves, by the rules. Assumes nothing.
--   settled r new old      the stage after a call that answered r: the new one, or if it was refused the old one
--   open_questions st f    the questions 11 to 18, where f makes the task of the loaded building
--   beginning st f         the stage of a search that was just opened
--   told_answer a          what a step answers, for an answer of the rules
--   step_answer st         what a step answers
--   step_questions st      the questions 19 to 21
--   step_stage st          the stage after it
--   choice_questions st i, choice_totals st i    the questions of a look-up, and its answer
--   way_questions st i n, way_legs st i          the questions of a way listing, and the legs
--   counts_of st           the counts of a finish
--   Untouched r p q        if r is a refusal, then q is p
--   Opening, Step, LookUp, Listing, Finish     what each call does, as its contract states it
use Rattle.std.specs.Prelude.{◌≡◌, ℕ, ◌-◌, Bool, true, false, cond, ◌||◌, List, [], ◌∷◌, ◌++◌, length, drop, Some, Ok, Err, Result, OnErr, ◌==◌, nat_le, nat_lt, ◌≢◌, slice_set}
use Rattle.costs.specs.Bag.{first}
use Rattle.costs.specs.declared.entry.Entry.{Entry}
use Rattle.costs.specs.declared.kind.CostKind as kinds
use Rattle.costs.specs.declared.open_list.OpenList as lists
use Rattle.survey.specs.declared.refusal.Refusal.{Refusal}
use Rattle.survey.specs.Questions.{Question, ask, decided, told}
use Rattle.plan.specs.declared.answer.StepAnswer.{StepAnswer}
use Rattle.plan.specs.declared.answer.StepAnswer.TheVariants.{Dropped, Shown, OpenedUp}
use Rattle.plan.specs.declared.fault.PlanFault.{PlanFault}
use Rattle.plan.specs.declared.fault.PlanFault.TheVariants.{NotOpened}
use Rattle.plan.specs.declared.counts.Counts.{Counts}
use Rattle.plan.specs.declared.leg.Leg.{Leg}
use Rattle.plan.specs.declared.record.Record.{Record}
use Rattle.plan.specs.declared.state.Ends.{Ends}
use Rattle.plan.specs.declared.state.Phase.TheVariants.{Opened}
use Rattle.plan.specs.declared.state.Plan.{Plan}
use Rattle.plan.specs.Faults.{plan_refusal}
use Rattle.plan.specs.Ways.{Building}
use Rattle.plan.specs.Rules.{Task, State, Answer, dropped, shown, opened as opened_up, refused, begun, stepped, record_at, useless, children_from, choice_pair}
use Rattle.plan.specs.Legs.{choice_legs}
use Rattle.plan.specs.Openings.{task_questions}
use Rattle.plan.specs.Requests.{task_for}
use Rattle.plan.specs.Stages.{task_between, state_of, stage}
use Rattle.plan.specs.Views.{Stage, bare, loaded, opened}

abbrev pub settled : {T F : Type 0} → Result T F → Stage → Stage → Stage
settled (Ok _) new old = new
settled (Err _) new old = old

abbrev pub open_questions : Stage → (Building → Task) → List Question
open_questions bare f = ask 11 0 false ∷ []
open_questions (loaded b) f = ask 11 0 true ∷ task_questions (f b)
open_questions (opened task s) f = ask 11 0 true ∷ task_questions (f task.building)

abbrev pub beginning : Stage → (Building → Task) → Stage
beginning bare f = bare
beginning (loaded b) f = opened (f b) (begun (f b))
beginning (opened task s) f = opened (f task.building) (begun (f task.building))

-- an answer of the rules, as a call gives it
abbrev pub told_answer : Answer → Result StepAnswer Refusal
told_answer dropped = Ok Dropped
told_answer shown = Ok Shown
told_answer (opened_up n) = Ok (OpenedUp n)
told_answer (refused n) = Err (record { number = n; spot = 0 })

abbrev pub step_answer : Stage → Result StepAnswer Refusal
step_answer bare = Err (plan_refusal NotOpened)
step_answer (loaded b) = Err (plan_refusal NotOpened)
step_answer (opened task s) = told_answer (stepped task s).answer

abbrev pub step_stage : Stage → Stage
step_stage bare = bare
step_stage (loaded b) = loaded b
step_stage (opened task s) = opened task (stepped task s).next

-- whether an entry waits
abbrev pub some_waits : List Entry → Bool
some_waits [] = false
some_waits (e ∷ es) = true

-- the children that the next step adds: those of the record of the least entry, if it is of use and not at the goal
abbrev pub born_from : Task → State → List Entry → List Record
born_from task s [] = []
born_from task s (e ∷ es) =
    cond (useless task s.bests (record_at s e.record) || (record_at s e.record).place == task.goal) []
    (children_from task (slice_set s.bests (record_at s e.record).place (Some (record_at s e.record).second)) e.record (record_at s e.record) 0 task.building.passages)

abbrev pub step_questions : Stage → List Question
step_questions bare = ask 19 0 false ∷ []
step_questions (loaded b) = ask 19 0 false ∷ []
step_questions (opened task s) =
    ask 19 0 true ∷
    ask 20 0 (some_waits s.waiting) ∷
    ask 21 0 (nat_le (length (born_from task s s.waiting)) (task.slots - length s.records)) ∷ []

-- the questions of a call that names a choice: is the plan opened, and is there such a choice
abbrev pub choice_questions : Stage → ℕ → List Question
choice_questions bare i = ask 19 0 false ∷ []
choice_questions (loaded b) i = ask 19 0 false ∷ []
choice_questions (opened task s) i = ask 19 0 true ∷ ask 22 0 (nat_lt i (length s.choices)) ∷ []

-- the two totals of the choice i
abbrev pub choice_totals : Stage → ℕ → ℕ × ℕ
choice_totals bare i = (0, 0)
choice_totals (loaded b) i = (0, 0)
choice_totals (opened task s) i = ((choice_pair s i).lead, (choice_pair s i).second)

-- the legs of the choice i
abbrev pub way_legs : Stage → ℕ → List Leg
way_legs bare i = []
way_legs (loaded b) i = []
way_legs (opened task s) i = choice_legs s i

-- the questions of a way listing, where n legs are lent
abbrev pub way_questions : Stage → ℕ → ℕ → List Question
way_questions st i n = choice_questions st i ++ ask 23 (length (way_legs st i)) (nat_le (length (way_legs st i)) n) ∷ []

-- what lent legs hold after a listing that answered r: the way, and behind it what they held; refused, what they held
abbrev pub filled : {T F : Type 0} → Result T F → List Leg → List Leg → List Leg
filled (Ok _) way legs = way ++ drop (length way) legs
filled (Err _) way legs = legs

-- the five counts of a finish: records used, steps opened up, shown and dropped, and entries that wait
abbrev pub counts_of : Stage → Counts
counts_of bare = record { records = 0; opened = 0; shown = 0; dropped = 0; waiting = 0 }
counts_of (loaded b) = record { records = 0; opened = 0; shown = 0; dropped = 0; waiting = 0 }
counts_of (opened task s) = record { records = length s.records; opened = s.opened; shown = length s.choices; dropped = s.dropped; waiting = length s.waiting }

abbrev pub Untouched : {T F P : Type 0} → Result T F → P → P → Type 0
Untouched r p q = OnErr r (q ≡ p)

module _ {A B Q : Type 0} {a : kinds.Ghosts A} {b : kinds.Ghosts B} {q : lists.Ghosts Q} where
  -- a step on the plan p answered r and left p'
  pub record Step (p : Plan A B Q a b q) (r : Result StepAnswer PlanFault) (p' : Plan A B Q a b q) : Type 0 where
    pub answer : told plan_refusal r ≡ step_answer (stage p)
    pub next : stage p' ≡ step_stage (stage p)
    pub refused : Untouched r p p'

  -- a look-up of the choice i answered r
  abbrev pub LookUp : Plan A B Q a b q → ℕ → Result (ℕ × ℕ) PlanFault → Type 0
  LookUp p i r = told plan_refusal r ≡ decided (choice_questions (stage p) i) (choice_totals (stage p) i)

  -- a listing of the way of the choice i into the lent legs answered r, and left them as legs'
  pub record Listing (p : Plan A B Q a b q) (i : ℕ) (legs : List Leg) (r : Result ℕ PlanFault) (legs' : List Leg) : Type 0 where
    pub answer : told plan_refusal r ≡ decided (way_questions (stage p) i (length legs)) (length (way_legs (stage p) i))
    pub left : legs' ≡ filled r (way_legs (stage p) i) legs

  -- an opening between the ends with two lists of forecasts answered r, and left the plan p'
  pub record Opening (p : Plan A B Q a b q) (ends : Ends) (leading second : List ℕ) (r : Result (Unit {0}) PlanFault) (p' : Plan A B Q a b q) : Type 0 where
    pub answer : told plan_refusal r ≡ decided (open_questions (stage p) (task_for ends leading second (q.slots p.list))) tt
    pub next : stage p' ≡ settled r (beginning (stage p) (task_for ends leading second (q.slots p.list))) (stage p)
    pub refused : Untouched r p p'

  -- a finish of the plan p gave these counts
  abbrev pub Finish : Plan A B Q a b q → Counts → Type 0
  Finish p counts = counts ≡ counts_of (stage p)

  -- the least entry of a plan opened between the ends is that of the record r with the number n, which is of use and not at the goal
  pub record ToOpen (p : Plan A B Q a b q) (ends : Ends) (n : ℕ) (r : Record) : Type 0 where
    pub phase : p.phase ≡ Opened ends
    pub entry : Entry
    pub least : Some entry ≡ first (q.bag p.list)
    pub number_is : entry.record ≡ n
    pub record_is : r ≡ record_at (state_of p) n
    pub of_use : useless (task_between p ends) (state_of p).bests r ≡ false
    pub elsewhere : r.place ≢ ends.goal
