-- What a step makes of a plan: the least entry, the tables afterwards, and the rules' next state. Assumes nothing.
use Rattle.std.proofs.Common.{◌≡◌, ℕ, suc, ◌+◌, ◌-◌, ◌<◌, ◌≤◌, true, false, cond, not, ◌&&◌, ◌||◌, eqb, List, [], ◌∷◌, ◌++◌, length, set, Some, None, Ok, Err, Option, sym, refl, ap, ◌∙◌, subst, subst₂, inl, inr, add-one, arith, length-append}
use Rattle.std.proofs.Props.{props}
use Rattle.std.proofs.lemmas.List.{map-set, set-get_or, get_or-set_same, get_or-set_other, length-set}
use Rattle.std.proofs.lemmas.Bool.{cases_eq, cond-true, cond-false, eq-eqb, ne_eqb, le-leb, lt-leb}
use Rattle.costs.specs.Bag.{first, rest, inserted}
use Rattle.costs.specs.Kinds.{Kind}
use Rattle.costs.specs.declared.entry.Entry.{Entry}
use Rattle.costs.specs.declared.kind.CostKind as kinds
use Rattle.costs.specs.declared.open_list.OpenList as lists
use Rattle.survey.specs.declared.passage.Passage.{Passage}
use Rattle.plan.specs.declared.answer.StepAnswer.{StepAnswer}
use Rattle.plan.specs.declared.answer.StepAnswer.TheVariants.{Dropped, Shown, OpenedUp}
use Rattle.plan.specs.declared.book.Book.{Book}
use Rattle.plan.specs.declared.fault.PlanFault.{PlanFault}
use Rattle.plan.specs.declared.fault.PlanFault.TheVariants.{NoRecord}
use Rattle.plan.specs.declared.place.Place.{Place}
use Rattle.plan.specs.declared.record.Record.{Record}
use Rattle.plan.specs.declared.state.Ends.{Ends}
use Rattle.plan.specs.declared.state.Phase.{Phase}
use Rattle.plan.specs.declared.state.Phase.TheVariants.{Opened}
use Rattle.plan.specs.declared.state.Plan.{Plan}
use Rattle.plan.specs.declared.table.Table.{Table}
use Rattle.plan.specs.Ways.{Building}
use Rattle.plan.specs.Faults.{plan_refusal}
use Rattle.plan.specs.Rules.{Task, State, Answer, dropped, shown, opened as opened_up, refused, Stepped, record_at, at_most, useless, second_estimate, entry_for, child_along, children_from, put_all, accepted, after_drop, after_show, after_open, step_from, after, stepped}
use Rattle.plan.specs.Joins.{ChildJoins, StepJoins}
use Rattle.plan.specs.Openings.{Fair, FairBuilding}
use Rattle.plan.specs.Stages.{building_held, task_between, state_of, stage}
use Rattle.plan.specs.Views.{FirstFrom-prop, opened, no_place, place_at, each_place, with_best, passages_in, FirstFrom, Indexed, Reached, Roomy, Searching, building_in, with_choice, task_in, state_in, stage_at}
use Rattle.plan.specs.Calls.{told_answer, step_answer, step_stage, Step, ToOpen}
use Rattle.plan.specs.Children.{aim_in, bests_with, kids_of, Opens, Added}
use Rattle.plan.proofs.Search.{top}
use Rattle.plan.proofs.Tied.{is_in, r_valid}
use Rattle.plan.proofs.Runs.{Goes, goes_after}
use Rattle.plan.proofs.Counted.{Counted, counted_after}
use Rattle.plan.proofs.Trails.{join_theorem_lem}
use Rattle.plan.proofs.Steps.{seen, kids}
use Rattle.plan.proofs.Fairness.{asked_fair}
use Rattle.plan.proofs.Tables.{each_at}

pub least_first : (w : List Entry) (e : Entry) → Some e ≡ first w → w ≡ e ∷ rest w
least_first [] e is = cc
least_first (f ∷ w) e is = let same : f ≡ e = cc in ap (λ (x : Entry). x ∷ w) same

-- children and their entries do not depend on the slots
abbrev with_slots : Task → ℕ → Task
with_slots task n = record { building = task.building; start = task.start; goal = task.goal; leading = task.leading; second = task.second; slots = n }

pub children_slots : (task : Task) (slots : ℕ) (bests : List (Option ℕ)) (number : ℕ) (r : Record) (n : ℕ) (ps : List Passage) → children_from task bests number r n ps ≡ children_from (with_slots task slots) bests number r n ps
children_slots task slots bests number r n [] = refl
children_slots task slots bests number r n (p ∷ ps) =
    ap (λ (rs : List Record). cond (eqb p.from r.place && not (useless task bests (child_along task number r n))) (child_along task number r n ∷ rs) rs) (children_slots task slots bests number r (suc n) ps)

put_slots : (task : Task) (slots n : ℕ) (rs : List Record) (es : List Entry) → put_all task n rs es ≡ put_all (with_slots task slots) n rs es
put_slots task slots n [] es = refl
put_slots task slots n (r ∷ rs) es = put_slots task slots (suc n) rs (inserted (entry_for task n r) es)

-- what a step of the rules is, by its test
pub complete_by : (task : Task) (s : State) → s.waiting ≡ [] → stepped task s ≡ record { answer = refused 20; next = s }
complete_by task s none = ap (step_from task s) none

module _ (task : Task) (s : State) (e : Entry) (es : List Entry) (waits : s.waiting ≡ e ∷ es) where
  pub dropped_by : useless task s.bests (seen s e) ≡ true → stepped task s ≡ after_drop s es
  dropped_by no_use = ap (step_from task s) waits ∙ cond-true _ _ _ no_use

  module _ (of_use : useless task s.bests (seen s e) ≡ false) where
    pub shown_by : (seen s e).place ≡ task.goal → stepped task s ≡ after_show s es e.record (seen s e)
    shown_by there = ap (step_from task s) waits ∙ cond-false _ _ _ of_use ∙ cond-true _ _ _ (eq-eqb _ _ there)

    module _ (elsewhere : (seen s e).place ≡ task.goal → ⊥) where
      pub opened_by : length (kids task s e) ≤ task.slots - length s.records → stepped task s ≡ after_open task s es (seen s e) (kids task s e)
      opened_by enough = ap (step_from task s) waits ∙ cond-false _ _ _ of_use ∙ cond-false _ _ _ (ne_eqb _ _ elsewhere) ∙ cond-true _ _ _ (le-leb _ _ enough)

      pub wanting_by : task.slots - length s.records < length (kids task s e) → stepped task s ≡ record { answer = refused 21; next = s }
      wanting_by wanting = ap (step_from task s) waits ∙ cond-false _ _ _ of_use ∙ cond-false _ _ _ (ne_eqb _ _ elsewhere) ∙ cond-false _ _ _ (lt-leb _ _ wanting)

-- what holds of a state that steps of the rules lead to
module _ (task : Task) (s : State) (fair : Fair task) (reached : Reached task s) where
  goes : Goes task fair s
  goes = subst (Goes task fair) (sym reached.is) (goes_after task fair (accepted s))

  pub counted : Counted task s
  counted = subst (Counted task) (sym reached.is) (counted_after task fair (accepted s))

  pub joins : StepJoins task s
  joins = subst (StepJoins task) (sym reached.is) (join_theorem_lem task fair (accepted s))

  -- and of its least entry
  pub record Least (e : Entry) : Type 0 where
    pub stored : e.record < length s.records
    pub place : (seen s e).place < task.building.places
    pub second : task.building.second.is_value (seen s e).second ≡ true
    pub estimate : e.second ≡ second_estimate task (seen s e)

  pub least : (e : Entry) (es : List Entry) → s.waiting ≡ e ∷ es → Least e
  least e es waits =
      let entered = goes.tied.entered e (is_in task fair s goes.closed goes.tied e es waits e top) in
      let valid = r_valid task fair s goes.closed goes.tied e es waits in
      record { stored = entered.stored; place = valid.place; second = valid.second; estimate = ap (λ (f : Entry). f.second) entered.estimates }

  -- an accepted step on
  pub reached_next : (x : Answer) (t : State) → stepped task s ≡ record { answer = x; next = t } → accepted t ≡ suc (accepted s) → Reached task t
  reached_next x t is one = record { asked = reached.asked; is = sym (ap (λ (y : Stepped). y.next) is) ∙ ap (λ (y : State). (stepped task y).next) reached.is ∙ ap (after task) (sym one) }

-- the table with another best
module _ (t : Table) (s g : ℕ) (inside : s < length t.places.items) where
  abbrev put : Place
  put = record { first = (place_at t s).first; best = Some g; leading = (place_at t s).leading; second = (place_at t s).second }

  pub bests_written : each_place (λ p. p.best) (with_best t s g) ≡ set (each_place (λ p. p.best) t) s (Some g)
  bests_written = map-set (λ (p : Place). p.best) t.places.items s put

  -- what does not read the best reads the same
  each_same : {X : Type 0} (f : Place → X) (d : X) → f put ≡ f (place_at t s) → each_place f (with_best t s g) ≡ each_place f t
  each_same f d same = map-set f t.places.items s put ∙ ap (set (each_place f t) s) (same ∙ sym (each_at f d t s inside)) ∙ set-get_or (each_place f t) s d

  pub task_with : (k m : Kind) (ends : Ends) (slots : ℕ) → task_in k m (with_best t s g) ends slots ≡ task_in k m t ends slots
  task_with k m ends slots = λ i. record {
    building = record { leading = k; second = m; places = length-set t.places.items s put i; passages = passages_in t };
    start = ends.start;
    goal = ends.goal;
    leading = each_same (λ p. p.leading) 0 refl i;
    second = each_same (λ p. p.second) 0 refl i;
    slots = slots;
  }

  first_with : (x : ℕ) → (place_at (with_best t s g) x).first ≡ (place_at t x).first
  first_with x =
      elim (cases_eq x s) [
        | inl same ↦ ap (λ (n : ℕ). (place_at (with_best t s g) n).first) same ∙ ap (λ (p : Place). p.first) (get_or-set_same t.places.items s put no_place inside) ∙ ap (λ (n : ℕ). (place_at t n).first) (sym same)
        | inr other ↦ ap (λ (p : Place). p.first) (get_or-set_other t.places.items s x put no_place other)
      ]

  pub indexed_with : Indexed t → Indexed (with_best t s g)
  indexed_with indexed = record {
    first = λ x below. subst (FirstFrom (passages_in t) x 0) (sym (first_with x)) (indexed.first x (omega (arith, length-set t.places.items s put)));
    next = indexed.next;
  }

-- what a step reads is what the rules read
pub useless_is : (k m : Kind) (t : Table) (ends : Ends) (slots : ℕ) (b : Book) (w : List Entry) (r : Record) (e : ℕ) → r.place < length t.places.items → ends.goal < length t.places.items → e ≡ second_estimate (task_in k m t ends slots) r →
    useless (task_in k m t ends slots) (state_in t b w).bests r ≡ (at_most (place_at t r.place).best r.second || at_most (place_at t ends.goal).best e)
useless_is k m t ends slots b w r e inside goal is = λ i. at_most (each_at (λ p. p.best) None t r.place inside i) r.second || at_most (each_at (λ p. p.best) None t ends.goal goal i) (sym is i)

-- the states of the rules after a step, read off the tables
module _ (k m : Kind) (t : Table) (b : Book) (w w' : List Entry) (taken : w' ≡ rest w) where
  pub drop_next : state_in t (record { records = b.records; choices = b.choices; opened = b.opened; dropped = b.dropped + 1 }) w' ≡ (after_drop (state_in t b w) (rest w)).next
  drop_next = λ i. record {
    records = b.records.items;
    bests = each_place (λ p. p.best) t;
    waiting = taken i;
    choices = b.choices.items;
    opened = b.opened;
    shown = length b.choices.items;
    dropped = add-one b.dropped i;
  }

  pub show_next : (r : Record) (goal g n : ℕ) → goal < length t.places.items → r.place ≡ goal → g ≡ r.second →
      state_in (with_best t goal g) (with_choice b n) w' ≡ (after_show (state_in t b w) (rest w) n r).next
  show_next r goal g n inside at_goal second = λ i. record {
    records = b.records.items;
    bests = (bests_written t goal g inside ∙ (λ j. set (each_place (λ p. p.best) t) (sym at_goal j) (Some (second j)))) i;
    waiting = taken i;
    choices = b.choices.items ++ n ∷ [];
    opened = b.opened;
    shown = (length-append b.choices.items (n ∷ []) ∙ add-one (length b.choices.items)) i;
    dropped = b.dropped;
  }

  pub open_next : (ends : Ends) (slots number : ℕ) (r : Record) → r.place < length t.places.items → (b' : Book) (w'' : List Entry) → Added (aim_in k m t ends) (kids_of k m t ends number r) b w' b' w'' →
      state_in (with_best t r.place r.second) (record { records = b'.records; choices = b'.choices; opened = b'.opened + 1; dropped = b'.dropped }) w'' ≡
      (after_open (task_in k m t ends slots) (state_in t b w) (rest w) r (kids_of k m t ends number r)).next
  open_next ends slots number r inside b' w'' added = λ i. record {
    records = added.records i;
    bests = bests_written t r.place r.second inside i;
    waiting = (added.waiting ∙ put_slots (aim_in k m t ends) slots (length b.records.items) (kids_of k m t ends number r) w' ∙ ap (put_all (task_in k m t ends slots) (length b.records.items) (kids_of k m t ends number r)) taken) i;
    choices = (added.choices i).items;
    opened = (ap (λ (n : ℕ). n + 1) added.opened ∙ add-one b.opened) i;
    shown = length (added.choices i).items;
    dropped = added.dropped i;
  }

-- there is at most one proof of each fact that a plan's type keeps
building_prop : (b : Building) → IsProp (FairBuilding b)
building_prop b = hlevel props

indexed_prop : (t : Table) → IsProp (Indexed t)
indexed_prop t = hlevel (props, FirstFrom-prop)

roomy_prop : (c : Book) → IsProp (Roomy c)
roomy_prop c = hlevel props

searching_prop : (x : Phase) (task : Ends → Task) (s : State) → IsProp (Searching x task s)
searching_prop x task s = hlevel props

module _ {A B Q : Type 0} {a : kinds.Ghosts A} {b : kinds.Ghosts B} {l : lists.Ghosts Q} (p : Plan A B Q a b l) where
  -- a plan is its parts: of each fact that its type keeps there is only one proof
  pub same_plan : (x : FairBuilding (building_held p)) (y : Indexed p.table) (z : Searching p.phase (task_between p) (state_of p)) (o : Roomy p.book) →
      record { leading = p.leading; second = p.second; list = p.list; phase = p.phase; table = p.table; book = p.book; building = x; indexed = y; searching = z; roomy = o } ≡ p
  same_plan x y z o = λ i. record {
    leading = p.leading;
    second = p.second;
    list = p.list;
    phase = p.phase;
    table = p.table;
    book = p.book;
    building = building_prop (building_held p) x p.building i;
    indexed = indexed_prop p.table y p.indexed i;
    searching = searching_prop p.phase (task_between p) (state_of p) z p.searching i;
    roomy = roomy_prop p.book o p.roomy i;
  }

  -- an opened plan
  module _ (ends : Ends) (phase : p.phase ≡ Opened ends) where
    abbrev pub task : Task
    task = task_between p ends

    abbrev pub state : State
    state = state_of p

    pub reached : Reached task state
    reached = p.searching ends phase

    pub fair : Fair task
    fair = asked_fair.opening task p.building reached.asked

    pub stage_is : stage p ≡ opened task state
    stage_is = ap (λ (x : Phase). stage_at x (building_held p) (task_between p) state) phase

    answer_by : (x : Stepped) → stepped task state ≡ x → told_answer x.answer ≡ step_answer (stage p)
    answer_by x is = ap (λ (y : Stepped). told_answer y.answer) (sym is) ∙ ap step_answer (sym stage_is)

    -- a refused step
    pub stays : (n : ℕ) (fault : PlanFault) → plan_refusal fault ≡ record { number = n; spot = 0 } → stepped task state ≡ record { answer = refused n; next = state } → Step p (Err fault) p
    stays n fault told_by is = record {
      answer = ap Err told_by ∙ answer_by _ is;
      next = stage_is ∙ ap (opened task) (sym (ap (λ (y : Stepped). y.next) is)) ∙ ap step_stage (sym stage_is);
      refused = refl;
    }

    -- what an accepted step that answered did leaves, the tables t and c and the list w: the plan keeps its facts, and it is the rules' step
    pub record Onward (did : StepAnswer) (t : Table) (c : Book) (w : Q) : Type 0 where
      pub building : FairBuilding (building_in a.kind b.kind t)
      pub indexed : Indexed t
      pub searching : Searching p.phase (λ e. task_in a.kind b.kind t e (l.slots w)) (state_in t c (l.bag w))
      pub roomy : Roomy c
      pub step : (x : FairBuilding (building_in a.kind b.kind t)) (y : Indexed t) (z : Searching p.phase (λ e. task_in a.kind b.kind t e (l.slots w)) (state_in t c (l.bag w))) (o : Roomy c) →
          Step p (Ok did) (record { leading = p.leading; second = p.second; list = w; phase = p.phase; table = t; book = c; building = x; indexed = y; searching = z; roomy = o })

    onward : (x : Answer) (did : StepAnswer) (s : State) (t : Table) (c : Book) (w : Q) → Ok did ≡ told_answer x → stepped task state ≡ record { answer = x; next = s } → accepted s ≡ suc (accepted state) →
        task_in a.kind b.kind t ends (l.slots w) ≡ task → state_in t c (l.bag w) ≡ s → Indexed t → Roomy c → Onward did t c w
    onward x did s t c w told_by is one task-same state-is index room = record {
      building = subst FairBuilding (ap (λ (y : Task). y.building) (sym task-same)) p.building;
      indexed = index;
      searching = λ e opened_at.
          let same : e ≡ ends = cc in
          subst (λ (y : Ends). Reached (task_in a.kind b.kind t y (l.slots w)) (state_in t c (l.bag w))) (sym same)
          (subst₂ Reached (sym task-same) (sym state-is) (reached_next task state fair reached x s is one));
      roomy = room;
      step = λ building index searching room. record {
        answer = told_by ∙ answer_by _ is;
        next = ap (λ (y : Phase). stage_at y (building_in a.kind b.kind t) (λ e. task_in a.kind b.kind t e (l.slots w)) (state_in t c (l.bag w))) phase ∙ (λ i. opened (task-same i) ((state-is ∙ ap (λ (y : Stepped). y.next) (sym is)) i)) ∙ ap step_stage (sym stage_is);
        refused = tt;
      };
    }

    -- the least entry, and its record
    module _ (e : Entry) (least_is : Some e ≡ first (l.bag p.list)) where
      pub waits : state.waiting ≡ e ∷ rest (l.bag p.list)
      waits = least_first (l.bag p.list) e least_is

      pub low : Least task state fair reached e
      low = least task state fair reached e (rest (l.bag p.list)) waits

      -- as the plan reads it
      module _ (r : Record) (is : r ≡ seen state e) where
        pub useless_read : useless task state.bests r ≡ (at_most (place_at p.table r.place).best r.second || at_most (place_at p.table ends.goal).best e.second)
        useless_read = useless_is a.kind b.kind p.table ends (l.slots p.list) p.book (l.bag p.list) r e.second (omega (arith, low.place, ap (λ (x : Record). x.place) is)) fair.goal_place (low.estimate ∙ ap (second_estimate task) (sym is))

        useless_seen : useless task state.bests (seen state e) ≡ (at_most (place_at p.table r.place).best r.second || at_most (place_at p.table ends.goal).best e.second)
        useless_seen = ap (useless task state.bests) (sym is) ∙ useless_read

      -- there is room for one more of each count
      pub below_slots : accepted state < l.slots p.list
      below_slots = let c = counted task state fair reached in omega (arith, c.counts, c.room, ap length waits)

      -- the record that was looked at is useless, or shown
      module _ (w : Q) (taken : l.bag w ≡ rest (l.bag p.list)) (slots : l.slots w ≡ l.slots p.list) (r : Record) (is : r ≡ seen state e) where
        pub drops : (at_most (place_at p.table r.place).best r.second || at_most (place_at p.table ends.goal).best e.second) ≡ true →
            Onward Dropped p.table (record { records = p.book.records; choices = p.book.choices; opened = p.book.opened; dropped = p.book.dropped + 1 }) w
        drops blocked = onward dropped Dropped _ p.table _ w refl (dropped_by task state e (rest (l.bag p.list)) waits (useless_seen r is ∙ blocked)) (omega arith)
            (ap (task_in a.kind b.kind p.table ends) slots) (drop_next a.kind b.kind p.table p.book (l.bag p.list) (l.bag w) taken) p.indexed p.roomy

        pub shows : (at_most (place_at p.table r.place).best r.second || at_most (place_at p.table ends.goal).best e.second) ≡ false → r.place ≡ ends.goal →
            (t : Table) → t ≡ with_best p.table ends.goal r.second → (c : Book) → c ≡ with_choice p.book e.record → l.slots p.list ≤ 2048 → Onward Shown t c w
        shows of_use at_goal t t-is c c-is limit =
            let there : (seen state e).place ≡ ends.goal = ap (λ (x : Record). x.place) (sym is) ∙ at_goal in
            subst₂ (λ (x : Table) (y : Book). Onward Shown x y w) (sym t-is) (sym c-is)
            (onward shown Shown _ _ _ w refl (shown_by task state e (rest (l.bag p.list)) waits (useless_seen r is ∙ of_use) there) (omega arith)
            (task_with p.table ends.goal r.second fair.goal_place a.kind b.kind ends (l.slots w) ∙ ap (task_in a.kind b.kind p.table ends) slots)
            (show_next a.kind b.kind p.table p.book (l.bag p.list) (l.bag w) taken (seen state e) ends.goal r.second e.record fair.goal_place there (ap (λ (x : Record). x.second) is))
            (indexed_with p.table ends.goal r.second fair.goal_place p.indexed)
            (p.roomy.0, omega (arith, below_slots, limit, length-append p.book.choices.items (e.record ∷ []))))

  -- the record r with the number n is opened up
  module _ (ends : Ends) (n : ℕ) (r : Record) (looked : ToOpen p ends n r) where
    abbrev the_task : Task
    the_task = task_between p ends

    abbrev e : Entry
    e = looked.entry

    seen_at : r ≡ seen (state_of p) e
    seen_at = looked.record_is ∙ ap (record_at (state_of p)) (sym looked.number_is)

    low_entry : Least the_task (state_of p) (fair ends looked.phase) (reached ends looked.phase) e
    low_entry = low ends looked.phase e looked.least

    child_joins : (i : ℕ) → i < length (passages_in p.table) → ChildJoins (aim_in a.kind b.kind p.table ends) r i
    child_joins i inside =
        let there : n < length (state_of p).records = omega (arith, looked.number_is, low_entry.stored) in
        let j = subst (λ (x : Record). ChildJoins the_task x i) (sym looked.record_is) ((joins the_task (state_of p) (fair ends looked.phase) (reached ends looked.phase)).children n i there inside) in
        record { leading = j.leading; second = j.second; estimates = λ number. record { leading = (j.estimates number).leading; second = (j.estimates number).second } }

    pub opens : Opens a.kind b.kind p.table ends r
    opens = record {
      building = p.building;
      indexed = p.indexed;
      place = omega (arith, ap (λ (x : Record). x.place) seen_at, low_entry.place);
      goal = (fair ends looked.phase).goal_place;
      elsewhere = looked.elsewhere;
      second = ap (λ (x : Record). b.kind.is_value x.second) seen_at ∙ low_entry.second;
      joins = child_joins;
    }

    abbrev pub born : List Record
    born = kids_of a.kind b.kind p.table ends n r

    -- the children by the table are those of the rules
    born_are : born ≡ kids the_task (state_of p) e
    born_are =
        children_slots (aim_in a.kind b.kind p.table ends) (l.slots p.list) (bests_with p.table r) n r 0 (passages_in p.table) ∙
        (λ i. children_from the_task (set (each_place (λ x. x.best) p.table) (seen_at i).place (Some (seen_at i).second)) (sym looked.number_is i) (seen_at i) 0 (passages_in p.table))

    of_use_seen : useless the_task (state_of p).bests (seen (state_of p) e) ≡ false
    of_use_seen = ap (useless the_task (state_of p).bests) (sym seen_at) ∙ looked.of_use

    elsewhere_seen : (seen (state_of p) e).place ≡ ends.goal → ⊥
    elsewhere_seen there = looked.elsewhere (ap (λ (x : Record). x.place) seen_at ∙ there)

    pub used_slots : length p.book.records.items ≤ l.slots p.list
    used_slots = (counted the_task (state_of p) (fair ends looked.phase) (reached ends looked.phase)).room

    -- at least one waits, and no more than there are records
    pub waiting_few : length (rest (l.bag p.list)) + 1 ≤ length p.book.records.items
    waiting_few = omega (arith, (counted the_task (state_of p) (fair ends looked.phase) (reached ends looked.phase)).counts, ap length (waits ends looked.phase e looked.least))

    pub opened_few : p.book.opened < l.slots p.list
    opened_few = omega (arith, below_slots ends looked.phase e looked.least)

    pub wants : l.slots p.list - length p.book.records.items < length born → (x : FairBuilding (building_held p)) (y : Indexed p.table) (z : Searching p.phase (task_between p) (state_of p)) (o : Roomy p.book) →
        Step p (Err NoRecord) (record { leading = p.leading; second = p.second; list = p.list; phase = p.phase; table = p.table; book = p.book; building = x; indexed = y; searching = z; roomy = o })
    wants wanting x y z o = subst (Step p (Err NoRecord)) (sym (same_plan x y z o)) (stays ends looked.phase 21 NoRecord refl
        (wanting_by the_task (state_of p) e (rest (l.bag p.list)) (waits ends looked.phase e looked.least) of_use_seen elsewhere_seen (omega (arith, ap length born_are))))

    module _ (count : ℕ) (counts : count ≡ length born) (enough : length born ≤ l.slots p.list - length p.book.records.items) (w : Q) (taken : l.bag w ≡ rest (l.bag p.list))
        (c : Book) (v : Q) (slots : l.slots v ≡ l.slots p.list) (added : Added (aim_in a.kind b.kind p.table ends) born p.book (l.bag w) c (l.bag v)) where
      step_is : stepped the_task (state_of p) ≡ record { answer = opened_up count; next = (after_open the_task (state_of p) (rest (l.bag p.list)) r born).next }
      step_is =
          opened_by the_task (state_of p) e (rest (l.bag p.list)) (waits ends looked.phase e looked.least) of_use_seen elsewhere_seen (omega (arith, ap length born_are, enough)) ∙
          (λ i. record { answer = opened_up ((sym (counts ∙ ap length born_are)) i); next = (after_open the_task (state_of p) (rest (l.bag p.list)) (sym seen_at i) (sym born_are i)).next })

      pub opens_up : (t : Table) → t ≡ with_best p.table r.place r.second → l.slots p.list ≤ 2048 → Onward ends looked.phase (OpenedUp count) t (record { records = c.records; choices = c.choices; opened = c.opened + 1; dropped = c.dropped }) v
      opens_up t t-is limit = subst (λ (x : Table). Onward ends looked.phase (OpenedUp count) x (record { records = c.records; choices = c.choices; opened = c.opened + 1; dropped = c.dropped }) v) (sym t-is)
          (onward ends looked.phase (opened_up count) (OpenedUp count) _ _ _ v refl step_is (omega arith)
          (task_with p.table r.place r.second opens.place a.kind b.kind ends (l.slots v) ∙ ap (task_in a.kind b.kind p.table ends) slots)
          (open_next a.kind b.kind p.table p.book (l.bag p.list) (l.bag w) taken ends (l.slots p.list) n r opens.place c (l.bag v) added)
          (indexed_with p.table r.place r.second opens.place p.indexed)
          (omega (arith, ap length added.records, length-append p.book.records.items born, enough, used_slots, limit), omega (arith, ap (λ v. length v.items) added.choices, p.roomy.1)))
