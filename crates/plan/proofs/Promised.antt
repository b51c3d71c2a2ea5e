-- The promise over every list of calls on an opened plan. Assumes nothing.
use Rattle.std.proofs.Common.{◌≡◌, ℕ, zero, suc, ◌+◌, ◌<◌, ◌≤◌, cond, eqb, List, [], ◌∷◌, ◌++◌, length, get_or, take, drop, Some, None, Ok, Err, Option, Result, sym, refl, ap, ◌∙◌, subst, subst₂, arith, length-append}
use Rattle.std.proofs.lemmas.List.{get_or_append_left, append-nil, append_assoc, take_at, drop_at}
use Rattle.std.proofs.lemmas.Bool.{cond-true, cond-false, lt-ltb, le-ltb, ltb-true}
use Rattle.std.specs.List.{ContainsAt as Has}
use Rattle.costs.specs.declared.kind.CostKind as kinds
use Rattle.costs.specs.declared.open_list.OpenList as lists
use Rattle.survey.specs.declared.refusal.Refusal.{Refusal}
use Rattle.survey.specs.Questions.{first_no, unless, decided, told}
use Rattle.survey.proofs.Asked.{passed, none_yes}
use Rattle.plan.specs.declared.answer.StepAnswer.{StepAnswer}
use Rattle.plan.specs.declared.answer.StepAnswer.TheVariants.{Dropped}
use Rattle.plan.specs.declared.counts.Counts.{Counts}
use Rattle.plan.specs.declared.fault.PlanFault.{PlanFault}
use Rattle.plan.specs.declared.fault.PlanFault.TheVariants.{NotLoaded, Ends as NoPlace, NoSlot, Forecasts, Forecast, AtGoal, Leading, Inconsistent, NotOpened, Complete, NoRecord, NoChoice, Legs}
use Rattle.plan.specs.declared.leg.Leg.{Leg}
use Rattle.plan.specs.declared.record.Record.{Record}
use Rattle.plan.specs.declared.state.Ends.{Ends}
use Rattle.plan.specs.declared.state.Phase.{Phase}
use Rattle.plan.specs.declared.state.Phase.TheVariants.{Bare, Loaded, Opened}
use Rattle.plan.specs.declared.state.Plan.{Plan}
use Rattle.plan.specs.Faults.{plan_refusal}
use Rattle.plan.specs.Ways.{Building, Pair}
use Rattle.plan.specs.Rules.{Task, State, no_record, begun, stepped, pair_of, pairs_in, choice_pair, choice_pairs, accepted, after}
use Rattle.plan.specs.Legs.{choice_legs, WayWith}
use Rattle.plan.specs.Openings.{Fair, FairBuilding, Passed, task_questions}
use Rattle.plan.specs.Promise.{Dominated}
use Rattle.plan.specs.Requests.{task_for}
use Rattle.plan.specs.Stages.{building_held, task_between, state_of, stage}
use Rattle.plan.specs.Views.{Stage, bare, loaded, opened, stage_at}
use Rattle.plan.specs.Calls.{open_questions, beginning, told_answer, step_answer, step_stage, step_questions, choice_questions, choice_totals, way_questions, way_legs, filled, counts_of, Step, LookUp, Listing, Finish}
use Rattle.plan.specs.Runs.{Event, step, look, list, refusal_in, answers_in, building_at, Runs, none, stepping, looking, listing, Asked, Shows, Kept, Begun, Same}
use Rattle.plan.proofs.Counted.{counted_after}
use Rattle.plan.proofs.Fairness.{asked_fair}
use Rattle.plan.proofs.Frontiers.{search_theorem_lem}
use Rattle.plan.proofs.Runs.{goes_after}
use Rattle.plan.proofs.Shapes.{counts_one, none_waits, pairs_grow, refusal_of, refused_asked}
use Rattle.plan.proofs.Stepping.{complete_by}

-- a refusal tells its fault
abbrev fault_by : ℕ → ℕ → PlanFault
fault_by n s =
    cond (eqb n 11) NotLoaded (cond (eqb n 12) NoPlace (cond (eqb n 13) NoSlot (cond (eqb n 14) Forecasts (cond (eqb n 15) (Forecast s) (cond (eqb n 16) AtGoal (cond (eqb n 17) (Leading s)
    (cond (eqb n 18) (Inconsistent s) (cond (eqb n 19) NotOpened (cond (eqb n 20) Complete (cond (eqb n 21) NoRecord (cond (eqb n 22) NoChoice (Legs s))))))))))))

fault_back : (f : PlanFault) → fault_by (plan_refusal f).number (plan_refusal f).spot ≡ f
fault_back NotLoaded = refl
fault_back NoPlace = refl
fault_back NoSlot = refl
fault_back Forecasts = refl
fault_back (Forecast s) = refl
fault_back AtGoal = refl
fault_back (Leading s) = refl
fault_back (Inconsistent s) = refl
fault_back NotOpened = refl
fault_back Complete = refl
fault_back NoRecord = refl
fault_back NoChoice = refl
fault_back (Legs s) = refl

-- so that what is told tells the answer
module _ {T : Type 0} where
  abbrev untold : Result T Refusal → Result T PlanFault
  untold (Ok v) = Ok v
  untold (Err r) = Err (fault_by r.number r.spot)

  untold_told : (r : Result T PlanFault) → untold (told plan_refusal r) ≡ r
  untold_told (Ok v) = refl
  untold_told (Err f) = ap Err (fault_back f)

  pub same_told : (r r' : Result T PlanFault) → told plan_refusal r ≡ told plan_refusal r' → r ≡ r'
  same_told r r' e = sym (untold_told r) ∙ ap untold e ∙ untold_told r'

  -- and that a call is refused by its questions
  asked_by : (o : Option Refusal) (v : T) (r : Result T PlanFault) → told plan_refusal r ≡ unless o v → o ≡ refusal_in r
  asked_by None v (Ok x) e = refl
  asked_by None v (Err f) e = cc
  asked_by (Some q) v (Ok x) e = cc
  asked_by (Some q) v (Err f) e = cc

-- a pair of a list of choices
pairs_at : (rs : List Record) (ns : List ℕ) (i : ℕ) (d : Pair) → i < length ns → get_or (pairs_in rs ns) i d ≡ pair_of (get_or rs (get_or ns i 0) no_record)
pairs_at rs [] i d inside = absurd (omega arith)
pairs_at rs (n ∷ ns) zero d inside = refl
pairs_at rs (n ∷ ns) (suc i) d inside = pairs_at rs ns i d (omega arith)

pairs_length : (rs : List Record) (ns : List ℕ) → length (pairs_in rs ns) ≡ length ns
pairs_length rs [] = refl
pairs_length rs (n ∷ ns) = ap suc (pairs_length rs ns)

-- the steps of the rules
module _ (task : Task) (fair : Fair task) where
  -- the pairs shown by then are the first of those shown later
  grown : (n j : ℕ) → (ys : List Pair) × (choice_pairs (after task (j + n)) ≡ choice_pairs (after task n) ++ ys)
  grown n zero = let same : 0 + n ≡ n = omega arith in ([], ap (λ (k : ℕ). choice_pairs (after task k)) same ∙ sym (append-nil (choice_pairs (after task n))))
  grown n (suc j) =
      let before = grown n j in
      let one = pairs_grow task (after task (j + n)) (goes_after task fair (j + n)).chosen.stored in
      let next : suc j + n ≡ suc (j + n) = omega arith in
      (before.0 ++ one.0, ap (λ (k : ℕ). choice_pairs (after task k)) next ∙ one.1 ∙ ap (λ (xs : List Pair). xs ++ one.0) before.1 ∙ append_assoc (choice_pairs (after task n)) before.0 one.0)

  -- nothing changes once nothing waits
  stuck : (n j : ℕ) → (after task n).waiting ≡ [] → after task (j + n) ≡ after task n
  stuck n zero waits = let same : 0 + n ≡ n = omega arith in ap (after task) same
  stuck n (suc j) waits =
      let next : suc j + n ≡ suc (j + n) = omega arith in
      ap (after task) next ∙ ap (λ (s : State). (stepped task s).next) (stuck n j waits) ∙ ap (λ x. x.next) (complete_by task (after task n) waits)

  abbrev taken : Result StepAnswer Refusal → StepAnswer
  taken (Ok a) = a
  taken (Err r) = Dropped

  abbrev rules_answers : ℕ → ℕ → List StepAnswer
  rules_answers n zero = []
  rules_answers n (suc j) = taken (told_answer (stepped task (after task n)).answer) ∷ rules_answers (suc n) j

  module _ {A B Q : Type 0} {a : kinds.Ghosts A} {b : kinds.Ghosts B} {l : lists.Ghosts Q} where
    -- the plan p is where n accepted steps lead
    pub record Where (p : Plan A B Q a b l) (n : ℕ) : Type 0 where
      pub stands : stage p ≡ opened task (after task n)
      pub counts : accepted (after task n) ≡ n

    -- one step on
    step_told : (p q : Plan A B Q a b l) (r : Result StepAnswer PlanFault) (n : ℕ) → Where p n → Step p r q → told plan_refusal r ≡ told_answer (stepped task (after task n)).answer
    step_told p q r n here made = made.answer ∙ ap step_answer here.stands

    accepted_on : (p q : Plan A B Q a b l) (a : StepAnswer) (n : ℕ) → Where p n → Step p (Ok a) q → Where q (suc n)
    accepted_on p q a n here made = record {
      stands = made.next ∙ ap step_stage here.stands;
      counts = counts_one task (after task n) a (sym (step_told p q (Ok a) n here made)) ∙ ap suc here.counts;
    }

    refused_on : (p q : Plan A B Q a b l) (f : PlanFault) (n : ℕ) → Where p n → Step p (Err f) q → Where q n
    refused_on p q f n here made = subst (λ (x : Plan A B Q a b l). Where x n) (sym made.refused) here

    -- where a run leads
    pub arrives : (p q : Plan A B Q a b l) (es : List Event) (n : ℕ) → Where p n → Runs p es q → Where q (length (answers_in es) + n)
    arrives p q es n here (none x) = let same : n ≡ 0 + n = omega arith in subst (Where p) same here
    arrives p q es n here (stepping x y (Ok a) {es = rest} made run) =
        let same : length (answers_in rest) + suc n ≡ suc (length (answers_in rest)) + n = omega arith in
        subst (Where q) same (arrives y q rest (suc n) (accepted_on p y a n here made) run)
    arrives p q es n here (stepping x y (Err f) {es = rest} made run) = arrives y q rest n (refused_on p y f n here made) run
    arrives p q es n here (looking x i r {es = rest} made run) = arrives p q rest n here run
    arrives p q es n here (listing x i legs r legs' {es = rest} made run) = arrives p q rest n here run

    pub answers_are : (p q : Plan A B Q a b l) (es : List Event) (n : ℕ) → Where p n → Runs p es q → answers_in es ≡ rules_answers n (length (answers_in es))
    answers_are p q es n here (none x) = refl
    answers_are p q es n here (stepping x y (Ok a) {es = rest} made run) =
        let this : a ≡ taken (told_answer (stepped task (after task n)).answer) = ap taken (step_told p y (Ok a) n here made) in
        (λ i. this i ∷ answers_are y q rest (suc n) (accepted_on p y a n here made) run i)
    answers_are p q es n here (stepping x y (Err f) {es = rest} made run) = answers_are y q rest n (refused_on p y f n here made) run
    answers_are p q es n here (looking x i r {es = rest} made run) = answers_are p q rest n here run
    answers_are p q es n here (listing x i legs r legs' {es = rest} made run) = answers_are p q rest n here run

    step_asked : (p q : Plan A B Q a b l) (r : Result StepAnswer PlanFault) (n : ℕ) → Where p n → Step p r q → first_no (step_questions (stage p)) ≡ refusal_in r
    step_asked p q r n here made =
        ap (λ (st : Stage). first_no (step_questions st)) here.stands ∙ refused_asked task (after task n) ∙ ap (refusal_of task (after task n)) (sym (step_told p q r n here made)) ∙ told_refusal r
      where
        told_refusal : (x : Result StepAnswer PlanFault) → refusal_of task (after task n) (told plan_refusal x) ≡ refusal_in x
        told_refusal (Ok a) = refl
        told_refusal (Err f) = refl

    pub all_asked : (p q : Plan A B Q a b l) (es : List Event) (n : ℕ) → Where p n → (run : Runs p es q) → Asked run
    all_asked p q es n here (none x) = tt
    all_asked p q es n here (stepping x y (Ok a) {es = rest} made run) = (step_asked p y (Ok a) n here made, all_asked y q rest (suc n) (accepted_on p y a n here made) run)
    all_asked p q es n here (stepping x y (Err f) {es = rest} made run) = (step_asked p y (Err f) n here made, all_asked y q rest n (refused_on p y f n here made) run)
    all_asked p q es n here (looking x i r {es = rest} made run) = (asked_by _ _ r made, all_asked p q rest n here run)
    all_asked p q es n here (listing x i legs r legs' {es = rest} made run) = (asked_by _ _ r made.answer, all_asked p q rest n here run)

    -- one call on a plan
    abbrev Made : Plan A B Q a b l → Event → Type 0
    Made p (step r) = (q : Plan A B Q a b l) × Step p r q
    Made p (look i r) = LookUp p i r
    Made p (list i legs r legs') = Listing p i legs r legs'

    -- the moment at which a call of a run was made
    record Moment (plan : Plan A B Q a b l) (e : Event) (n many : ℕ) : Type 0 where
      steps : ℕ
      more : ℕ
      there : Where plan steps
      made : Made plan e
      later : more + steps ≡ many + n

    moment : (p q : Plan A B Q a b l) (es : List Event) (n : ℕ) → Where p n → Runs p es q → (e : Event) (i : ℕ) → i < length es → ((d : Event) → get_or es i d ≡ e) → (x : Plan A B Q a b l) × Moment x e n (length (answers_in es))
    moment p q es n here (none x) e i inside at = absurd (omega arith)
    moment p q es n here (stepping x y (Ok a) {es = rest} made run) e zero inside at = (p, record { steps = n; more = suc (length (answers_in rest)); there = here; made = subst (Made p) (at e) (y, made); later = refl })
    moment p q es n here (stepping x y (Ok a) {es = rest} made run) e (suc i) inside at =
        let found = moment y q rest (suc n) (accepted_on p y a n here made) run e i (omega arith) at in
        (found.0, record { steps = found.1.steps; more = found.1.more; there = found.1.there; made = found.1.made; later = omega (arith, found.1.later) })
    moment p q es n here (stepping x y (Err f) {es = rest} made run) e zero inside at = (p, record { steps = n; more = length (answers_in rest); there = here; made = subst (Made p) (at e) (y, made); later = refl })
    moment p q es n here (stepping x y (Err f) {es = rest} made run) e (suc i) inside at = moment y q rest n (refused_on p y f n here made) run e i (omega arith) at
    moment p q es n here (looking x j r {es = rest} made run) e zero inside at = (p, record { steps = n; more = length (answers_in rest); there = here; made = subst (Made p) (at e) made; later = refl })
    moment p q es n here (looking x j r {es = rest} made run) e (suc i) inside at = moment p q rest n here run e i (omega arith) at
    moment p q es n here (listing x j legs r legs' {es = rest} made run) e zero inside at = (p, record { steps = n; more = length (answers_in rest); there = here; made = subst (Made p) (at e) made; later = refl })
    moment p q es n here (listing x j legs r legs' {es = rest} made run) e (suc i) inside at = moment p q rest n here run e i (omega arith) at

    -- what the plan shows where n steps lead
    module _ (q : Plan A B Q a b l) (n : ℕ) (here : Where q n) where
      abbrev pub pairs : List Pair
      pairs = choice_pairs (after task n)

      many_pairs : length pairs ≡ length (after task n).choices
      many_pairs = pairs_length (after task n).records (after task n).choices

      looked : (i : ℕ) (r : Result (ℕ × ℕ) PlanFault) → LookUp q i r → told plan_refusal r ≡ decided (choice_questions (opened task (after task n)) i) (choice_totals (opened task (after task n)) i)
      looked i r made = made ∙ ap (λ (st : Stage). decided (choice_questions st i) (choice_totals st i)) here.stands

      pub shows_pairs : Shows q pairs
      shows_pairs = record {
        each = λ i r d made inside. same_told r (Ok ((get_or pairs i d).lead, (get_or pairs i d).second))
            (looked i r made ∙ ap (λ (o : Option Refusal). unless o (choice_totals (opened task (after task n)) i)) (cond-true _ _ _ (lt-ltb i (length (after task n).choices) (omega (arith, many_pairs)))) ∙
            ap (λ (x : Pair). Ok (x.lead, x.second)) (sym (pairs_at (after task n).records (after task n).choices i d (omega (arith, many_pairs)))));
        then_none = λ i r made past. same_told r (Err NoChoice)
            (looked i r made ∙ ap (λ (o : Option Refusal). unless o (choice_totals (opened task (after task n)) i)) (cond-false _ _ _ (le-ltb i (length (after task n).choices) (omega (arith, many_pairs)))));
      }

    -- an accepted listing gives a way of the rules
    module _ (p : Plan A B Q a b l) (n : ℕ) (here : Where p n) (i many : ℕ) (legs legs' : List Leg) (made : Listing p i legs (Ok many) legs') where
      abbrev way : List Leg
      way = choice_legs (after task n) i

      listed : Ok many ≡ decided (way_questions (opened task (after task n)) i (length legs)) (length way)
      listed = made.answer ∙ ap (λ (st : Stage). decided (way_questions st i (length legs)) (length (way_legs st i))) here.stands

      pub listed_choice : i < length (after task n).choices
      listed_choice =
          let asked = (passed (first_no (way_questions (opened task (after task n)) i (length legs))) (length way) many listed).0 in
          ltb-true _ _ (none_yes (way_questions (opened task (after task n)) i (length legs)) asked).1.0

      listed_many : many ≡ length way
      listed_many = (passed (first_no (way_questions (opened task (after task n)) i (length legs))) (length way) many listed).1

      listed_left : legs' ≡ way ++ drop (length way) legs
      listed_left = made.left ∙ ap (λ (st : Stage). way_legs st i ++ drop (length (way_legs st i)) legs) here.stands

      pub listed_way : take many legs' ≡ way
      listed_way = ap (take many) listed_left ∙ take_at way (drop (length way) legs) many (sym listed_many)

      pub listed_rest : drop many legs' ≡ drop many legs
      listed_rest = ap (drop many) listed_left ∙ drop_at way (drop (length way) legs) many (sym listed_many) ∙ ap (λ (x : ℕ). drop x legs) (sym listed_many)

    -- the promise of one plan, where a run from the opening leads
    module _ (p q : Plan A B Q a b l) (es : List Event) (start : Where p 0) (run : Runs p es q) (few : task.slots ≤ 2048) where
      abbrev many_steps : ℕ
      many_steps = length (answers_in es)

      total : many_steps + 0 ≡ many_steps
      total = omega arith

      pub ends_at : Where q many_steps
      ends_at = subst (Where q) total (arrives p q es 0 start run)

      few_accepted : many_steps ≤ 2048
      few_accepted = let c = counted_after task fair many_steps in omega (arith, ends_at.counts, c.counts, c.room)

      -- a choice shown at a moment of the run is the same at its end
      still_shown : (n j i : ℕ) (d : Pair) → j + n ≡ many_steps → i < length (after task n).choices → (i < length (choice_pairs (after task many_steps))) × (get_or (choice_pairs (after task many_steps)) i d ≡ choice_pair (after task n) i)
      still_shown n j i d later inside =
          let more = grown n j in
          let all : choice_pairs (after task many_steps) ≡ choice_pairs (after task n) ++ more.0 = ap (λ (x : ℕ). choice_pairs (after task x)) (sym later) ∙ more.1 in
          let many = pairs_length (after task n).records (after task n).choices in (
            omega (arith, ap length all, length-append (choice_pairs (after task n)) more.0, many),
            ap (λ (xs : List Pair). get_or xs i d) all ∙ get_or_append_left (choice_pairs (after task n)) more.0 d i (omega (arith, many)) ∙ pairs_at (after task n).records (after task n).choices i d inside,
          )

      ways_kept : (i n : ℕ) (legs legs' : List Leg) (d : Pair) → Has es (list i legs (Ok n) legs') →
          (i < length (choice_pairs (after task many_steps))) × WayWith task.building task.start task.goal (get_or (choice_pairs (after task many_steps)) i d) (take n legs') × (drop n legs' ≡ drop n legs)
      ways_kept i n legs legs' d has =
          let found = moment p q es 0 start run (list i legs (Ok n) legs') has.0 has.1 has.2 in
          let at = found.1 in
          let inside = listed_choice found.0 at.steps at.there i n legs legs' at.made in
          let shown = still_shown at.steps at.more i d (at.later ∙ total) inside in (
            shown.0,
            subst₂ (WayWith task.building task.start task.goal) (sym shown.1) (sym (listed_way found.0 at.steps at.there i n legs legs' at.made)) ((search_theorem_lem task fair at.steps).legs i inside),
            listed_rest found.0 at.steps at.there i n legs legs' at.made,
          )

      complete_kept : Has es (step (Err Complete)) → Dominated task.building task.start task.goal (choice_pairs (after task many_steps))
      complete_kept has =
          let found = moment p q es 0 start run (step (Err Complete)) has.0 has.1 has.2 in
          let at = found.1 in
          let empty = none_waits task (after task at.steps) (sym (step_told found.0 at.made.0 (Err Complete) at.steps at.there at.made.1)) in
          let same : after task many_steps ≡ after task at.steps = ap (after task) (sym (at.later ∙ total)) ∙ stuck at.steps at.more empty in
          subst (λ (s : State). Dominated task.building task.start task.goal (choice_pairs s)) (sym same) ((search_theorem_lem task fair at.steps).complete empty)

      pub kept_run : Kept task.building task.start task.goal es q
      kept_run = record {
        shown = choice_pairs (after task many_steps);
        looked_up = shows_pairs q many_steps ends_at;
        first_ones = (search_theorem_lem task fair many_steps).shown;
        ways = ways_kept;
        few_steps = few_accepted;
        complete = complete_kept;
      }

-- what an accepted opening begins
module _ (f : Building → Task) (b : Building) where
  begins : (st : Stage) → building_at st ≡ Some b → first_no (open_questions st f) ≡ None → Passed (task_questions (f b)) × (beginning st f ≡ opened (f b) (begun (f b)))
  begins bare is none-asked = absurd cc
  begins (loaded c) is passed-all =
      let same : c ≡ b = cc in
      (subst (λ (x : Building). Passed (task_questions (f x))) same passed-all, ap (λ (x : Building). opened (f x) (begun (f x))) same)
  begins (opened task s) is passed-all =
      let same : task.building ≡ b = cc in
      (subst (λ (x : Building). Passed (task_questions (f x))) same passed-all, ap (λ (x : Building). opened (f x) (begun (f x))) same)

loaded_is : (x : Phase) (b c : Building) (task : Ends → Task) (s : State) → ((ends : Ends) → (task ends).building ≡ b) → building_at (stage_at x b task s) ≡ Some c → b ≡ c
loaded_is Bare b c task s same is = cc
loaded_is Loaded b c task s same is = cc
loaded_is (Opened ends) b c task s same is = let here = same ends in cc

module _ {A B Q : Type 0} {a : kinds.Ghosts A} {b : kinds.Ghosts B} {l : lists.Ghosts Q} (c : Building) (ends : Ends) (leading second : List ℕ) (slots : ℕ) (p : Plan A B Q a b l) (begun_by : Begun c ends leading second slots p) where
  abbrev pub asked_task : Task
  asked_task = task_for ends leading second slots c

  begun_all : Passed (task_questions asked_task) × (stage p ≡ opened asked_task (begun asked_task))
  begun_all =
      let f = task_for ends leading second (l.slots begun_by.before.list) in
      let asked = (passed (first_no (open_questions (stage begun_by.before) f)) tt tt begun_by.opening.answer).0 in
      let both = begins f c (stage begun_by.before) begun_by.building asked in
      let same : f c ≡ asked_task = ap (λ (n : ℕ). task_for ends leading second n c) begun_by.slots_are in
      (subst (λ (t : Task). Passed (task_questions t)) same both.0, begun_by.opening.next ∙ both.1 ∙ ap (λ (t : Task). opened t (begun t)) same)

  pub begun_fair : Fair asked_task
  begun_fair =
      let before = begun_by.before in
      let same = loaded_is before.phase (building_held before) c (task_between before) (state_of before) (λ e. refl) begun_by.building in
      asked_fair.opening asked_task (subst FairBuilding same before.building) begun_all.0

  pub begun_where : Where asked_task begun_fair p 0
  begun_where = record { stands = begun_all.1; counts = refl }

  pub few_slots : ((w : Q) → l.slots w ≤ 2048) → slots ≤ 2048
  few_slots limit = omega (arith, limit begun_by.before.list, begun_by.slots_are)

-- two plans that stand where the same steps lead
module _ {A B P Q : Type 0} {a : kinds.Ghosts A} {b : kinds.Ghosts B} {l : lists.Ghosts P} {m : lists.Ghosts Q} (q : Plan A B P a b l) (q' : Plan A B Q a b m) (alike : stage q ≡ stage q') where
  same_choices : (i : ℕ) (r r' : Result (ℕ × ℕ) PlanFault) → LookUp q i r → LookUp q' i r' → r ≡ r'
  same_choices i r r' made made' = same_told r r' (made ∙ ap (λ (st : Stage). decided (choice_questions st i) (choice_totals st i)) alike ∙ sym made')

  same_ways : (i : ℕ) (lent left left' : List Leg) (r r' : Result ℕ PlanFault) → Listing q i lent r left → Listing q' i lent r' left' → (r ≡ r') × (left ≡ left')
  same_ways i lent left left' r r' made made' =
      let answers = same_told r r' (made.answer ∙ ap (λ (st : Stage). decided (way_questions st i (length lent)) (length (way_legs st i))) alike ∙ sym made'.answer) in
      (answers, made.left ∙ (λ j. filled (answers j) (way_legs (alike j) i) lent) ∙ sym made'.left)

  same_counts : (c c' : Counts) → Finish q c → Finish q' c' → c ≡ c'
  same_counts c c' made made' = made ∙ ap counts_of alike ∙ sym made'

module _ {A B P Q : Type 0} {a : kinds.Ghosts A} {b : kinds.Ghosts B} {l : lists.Ghosts P} {m : lists.Ghosts Q} (task : Task) (fair : Fair task) (p q : Plan A B P a b l) (p' q' : Plan A B Q a b m) (es es' : List Event) (start : Where task fair p 0) (run : Runs p es q) (start' : Where task fair p' 0) (run' : Runs p' es' q')
    (few : task.slots ≤ 2048) (many : length (answers_in es) ≡ length (answers_in es')) where
  pub same_run : Same es q es' q'
  same_run =
      let alike = (ends_at task fair p q es start run few).stands ∙ ap (λ (n : ℕ). opened task (after task n)) many ∙ sym (ends_at task fair p' q' es' start' run' few).stands in
      record {
        answers = answers_are task fair p q es 0 start run ∙ ap (rules_answers task fair 0) many ∙ sym (answers_are task fair p' q' es' 0 start' run');
        choices = same_choices q q' alike;
        ways = same_ways q q' alike;
        counts = same_counts q q' alike;
      }
