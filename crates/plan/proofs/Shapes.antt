-- What one step of the rules can be, and what follows of its answer. Assumes nothing.
use Rattle.std.proofs.Common.{◌≡◌, ℕ, suc, ◌-◌, ◌<◌, ◌≤◌, true, false, cond, ◌||◌, eqb, leb, List, [], ◌∷◌, ◌++◌, length, Some, None, Ok, Err, Option, Result, sym, refl, ap, ◌∙◌, inl, inr, arith}
use Rattle.std.proofs.lemmas.List.{append-nil}
use Rattle.std.proofs.lemmas.Bool.{cases_Bool, cases_lt, cond-true, cond-false, eqb-true, eqb-false, le-leb, lt-leb, or_left, or_right, or_from}
use Rattle.costs.specs.declared.entry.Entry.{Entry}
use Rattle.survey.specs.declared.refusal.Refusal.{Refusal}
use Rattle.survey.specs.Questions.{first_no}
use Rattle.plan.specs.declared.answer.StepAnswer.{StepAnswer}
use Rattle.plan.specs.declared.fault.PlanFault.TheVariants.{Complete, NoRecord}
use Rattle.plan.specs.declared.record.Record.{Record}
use Rattle.plan.specs.Faults.{plan_refusal}
use Rattle.plan.specs.Ways.{Pair}
use Rattle.plan.specs.Rules.{Task, State, refused, Stepped, useless, pair_of, choice_pairs, accepted, after_drop, after_show, after_open, stepped}
use Rattle.plan.specs.Views.{opened}
use Rattle.plan.specs.Calls.{told_answer, born_from, step_questions}
use Rattle.plan.proofs.Chosen.{Below, pairs_more, pairs_push}
use Rattle.plan.proofs.Steps.{seen, kids}
use Rattle.plan.proofs.Stepping.{complete_by, dropped_by, shown_by, opened_by, wanting_by}

pub data Shape (task : Task) (s : State) : Type 0 where
  done : s.waiting ≡ [] → stepped task s ≡ record { answer = refused 20; next = s } → Shape task s
  drops : (e : Entry) (es : List Entry) → s.waiting ≡ e ∷ es → useless task s.bests (seen s e) ≡ true → stepped task s ≡ after_drop s es → Shape task s
  shows : (e : Entry) (es : List Entry) → s.waiting ≡ e ∷ es → eqb (seen s e).place task.goal ≡ true → stepped task s ≡ after_show s es e.record (seen s e) → Shape task s
  opens : (e : Entry) (es : List Entry) → s.waiting ≡ e ∷ es → useless task s.bests (seen s e) ≡ false → eqb (seen s e).place task.goal ≡ false → length (kids task s e) ≤ task.slots - length s.records → stepped task s ≡ after_open task s es (seen s e) (kids task s e) → Shape task s
  wants : (e : Entry) (es : List Entry) → s.waiting ≡ e ∷ es → useless task s.bests (seen s e) ≡ false → eqb (seen s e).place task.goal ≡ false → task.slots - length s.records < length (kids task s e) → stepped task s ≡ record { answer = refused 21; next = s } → Shape task s

abbrev number : Result StepAnswer Refusal → ℕ
number (Ok a) = 0
number (Err r) = r.number

module _ (task : Task) (s : State) where
  shape_from : (w : List Entry) → s.waiting ≡ w → Shape task s
  shape_from [] waits = done waits (complete_by task s waits)
  shape_from (e ∷ es) waits =
      elim (cases_Bool (useless task s.bests (seen s e))) [
        | inl no_use ↦ drops e es waits no_use (dropped_by task s e es waits no_use)
        | inr of_use ↦
            elim (cases_Bool (eqb (seen s e).place task.goal)) [
              | inl here ↦ shows e es waits here (shown_by task s e es waits of_use (eqb-true _ _ here))
              | inr elsewhere ↦
                  elim (cases_lt (task.slots - length s.records) (length (kids task s e))) [
                    | inl few ↦ wants e es waits of_use elsewhere few (wanting_by task s e es waits of_use (eqb-false _ _ elsewhere) few)
                    | inr enough ↦ opens e es waits of_use elsewhere enough (opened_by task s e es waits of_use (eqb-false _ _ elsewhere) enough)
                  ]
            ]
      ]

  pub shape : Shape task s
  shape = shape_from s.waiting refl

  answer_of : (x : Stepped) → stepped task s ≡ x → told_answer (stepped task s).answer ≡ told_answer x.answer
  answer_of x is = ap (λ (y : Stepped). told_answer y.answer) is

  next_of : (x : Stepped) → stepped task s ≡ x → (stepped task s).next ≡ x.next
  next_of x is = ap (λ (y : Stepped). y.next) is

  -- an accepted step is counted
  pub counts_one : (a : StepAnswer) → told_answer (stepped task s).answer ≡ Ok a → accepted (stepped task s).next ≡ suc (accepted s)
  counts_one a is = by shape
    where
      by : Shape task s → accepted (stepped task s).next ≡ suc (accepted s)
      by (done waits x) = cc (answer_of _ x)
      by (drops e es waits no_use x) = ap accepted (next_of _ x) ∙ omega arith
      by (shows e es waits here x) = ap accepted (next_of _ x) ∙ omega arith
      by (opens e es waits of_use elsewhere enough x) = ap accepted (next_of _ x) ∙ omega arith
      by (wants e es waits of_use elsewhere few x) = cc (answer_of _ x)

  -- complete means that nothing waits
  pub none_waits : told_answer (stepped task s).answer ≡ Err (plan_refusal Complete) → s.waiting ≡ []
  none_waits is = by shape
    where
      by : Shape task s → s.waiting ≡ []
      by (done waits x) = waits
      by (drops e es waits no_use x) = cc (answer_of _ x)
      by (shows e es waits here x) = cc (answer_of _ x)
      by (opens e es waits of_use elsewhere enough x) = cc (answer_of _ x)
      by (wants e es waits of_use elsewhere few x) = absurd (let z : ◌≡◌ {A = ℕ} 21 20 = ap number (sym (answer_of _ x) ∙ is) in omega arith)

  -- the pairs shown before stay, in front
  pub pairs_grow : Below (length s.records) s.choices → (ys : List Pair) × (choice_pairs (stepped task s).next ≡ choice_pairs s ++ ys)
  pairs_grow stored = by shape
    where
      by : Shape task s → (ys : List Pair) × (choice_pairs (stepped task s).next ≡ choice_pairs s ++ ys)
      by (done waits x) = ([], ap choice_pairs (next_of _ x) ∙ sym (append-nil (choice_pairs s)))
      by (drops e es waits no_use x) = ([], ap choice_pairs (next_of _ x) ∙ sym (append-nil (choice_pairs s)))
      by (shows e es waits here x) = (pair_of (seen s e) ∷ [], ap choice_pairs (next_of _ x) ∙ pairs_push s.records e.record s.choices)
      by (opens e es waits of_use elsewhere enough x) = ([], ap choice_pairs (next_of _ x) ∙ pairs_more s.records (kids task s e) s.choices stored ∙ sym (append-nil (choice_pairs s)))
      by (wants e es waits of_use elsewhere few x) = ([], ap choice_pairs (next_of _ x) ∙ sym (append-nil (choice_pairs s)))

  abbrev pub refusal_of : Result StepAnswer Refusal → Option Refusal
  refusal_of (Ok a) = None
  refusal_of (Err r) = Some r

  abbrev free : ℕ
  free = task.slots - length s.records

  -- a step is refused by the first "no" of its questions
  pub refused_asked : first_no (step_questions (opened task s)) ≡ refusal_of (told_answer (stepped task s).answer)
  refused_asked = by shape
    where
      -- with what waits, and with the children that a step adds
      questions : (w : List Entry) → s.waiting ≡ w → first_no (step_questions (opened task s)) ≡ first_no (step_questions (opened task (record { records = s.records; bests = s.bests; waiting = w; choices = s.choices; opened = s.opened; shown = s.shown; dropped = s.dropped })))
      questions w waits = ap (λ (es : List Entry). first_no (step_questions (opened task (record { records = s.records; bests = s.bests; waiting = es; choices = s.choices; opened = s.opened; shown = s.shown; dropped = s.dropped })))) waits

      room : (rs : List Record) → length rs ≤ free → cond (leb (length rs) free) None (Some (plan_refusal NoRecord)) ≡ None
      room rs enough = cond-true _ _ _ (le-leb _ _ enough)

      none_born : (e : Entry) (es : List Entry) → (useless task s.bests (seen s e) || eqb (seen s e).place task.goal) ≡ true → born_from task s (e ∷ es) ≡ []
      none_born e es no-child = cond-true _ _ _ no-child

      all_born : (e : Entry) (es : List Entry) → (useless task s.bests (seen s e) || eqb (seen s e).place task.goal) ≡ false → born_from task s (e ∷ es) ≡ kids task s e
      all_born e es children = cond-false _ _ _ children

      told : (e : Entry) (es : List Entry) (rs : List Record) → s.waiting ≡ e ∷ es → born_from task s (e ∷ es) ≡ rs → first_no (step_questions (opened task s)) ≡ cond (leb (length rs) free) None (Some (plan_refusal NoRecord))
      told e es rs waits born = questions (e ∷ es) waits ∙ ap (λ (xs : List Record). cond (leb (length xs) free) None (Some (plan_refusal NoRecord))) born

      by : Shape task s → first_no (step_questions (opened task s)) ≡ refusal_of (told_answer (stepped task s).answer)
      by (done waits x) = questions [] waits ∙ ap refusal_of (sym (answer_of _ x))
      by (drops e es waits no_use x) = told e es [] waits (none_born e es (or_left _ _ no_use)) ∙ room [] (omega arith) ∙ ap refusal_of (sym (answer_of _ x))
      by (shows e es waits here x) = told e es [] waits (none_born e es (or_right _ _ here)) ∙ room [] (omega arith) ∙ ap refusal_of (sym (answer_of _ x))
      by (opens e es waits of_use elsewhere enough x) = told e es (kids task s e) waits (all_born e es (or_from _ _ of_use elsewhere)) ∙ room (kids task s e) enough ∙ ap refusal_of (sym (answer_of _ x))
      by (wants e es waits of_use elsewhere few x) = told e es (kids task s e) waits (all_born e es (or_from _ _ of_use elsewhere)) ∙ cond-false _ _ _ (lt-leb _ _ few) ∙ ap refusal_of (sym (answer_of _ x))
