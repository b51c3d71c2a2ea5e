-- What the tables of a plan hold, in the words of the rules, and what always holds of them. Assumes nothing.
--   Stage                what a plan is ready for: nothing, a loaded building, or an opened search
--   FirstFrom ps s k o   o is the lowest number, from k on, of a passage of ps that leaves the place s, or none
--   Indexed t            by its first and next passages the table t finds those that leave each place, in file order
--   Unlinked t           no place of the table t has a first passage, and each passage leaves a place
--   Copied bs t          the table t holds the places of the survey bs without a link, a best or a forecast, and its passages
--   Linked t u           the table u is t with its passages linked
--   Filled bs t          the table t holds what the survey bs says, linked
--   Roomy b              the book b has at most 2,048 records, and at most 2,048 choices
--   Reached task s       the state s is one that steps of the rules lead to
--   Searching x f s      if the phase x is an opened search between some ends, its state is s, and f makes its task
use Rattle.std.specs.Prelude.{◌≡◌, ℕ, suc, ◌<◌, ◌≤◌, List, [], ◌∷◌, ◌++◌, map, length, get_or, replicate, None, Some, Option, ◌≢◌, slice_index_or}
use Rattle.std.specs.Coded.{Coded-set, coded_ℕ, Π_prop, →_prop, le_prop}
use Rattle.survey.specs.declared.passage.Passage.{Passage}
use Rattle.survey.specs.File as surveyed
use Rattle.arrayvec.specs.ArrayVec.{with_item}
use Rattle.costs.specs.declared.entry.Entry.{Entry}
use Rattle.costs.specs.Kinds.{Kind}
use Rattle.plan.specs.declared.book.Book.{Book}
use Rattle.plan.specs.declared.place.Place.{Place}
use Rattle.plan.specs.declared.record.Record.{Record}
use Rattle.plan.specs.declared.state.Ends.{Ends}
use Rattle.plan.specs.declared.state.Phase.{Phase}
use Rattle.plan.specs.declared.state.Phase.TheVariants.{Bare, Loaded, Opened}
use Rattle.plan.specs.declared.table.Link.{Link}
use Rattle.plan.specs.declared.table.Table.{Table}
use Rattle.plan.specs.Ways.{Building, no_passage}
use Rattle.plan.specs.Rules.{Task, State, no_record, accepted, after}
use Rattle.plan.specs.Openings.{passage_list, task_questions, Passed}

pub data Stage : Type 0 where
  bare : Stage
  loaded : Building → Stage
  opened : Task → State → Stage

abbrev pub no_place : Place
no_place = record { first = None; best = None; leading = 0; second = 0 }

abbrev pub no_link : Link
no_link = record { passage = no_passage; next = None }

abbrev pub place_at : Table → ℕ → Place
place_at t s = slice_index_or t.places.items s no_place

abbrev pub link_at : Table → ℕ → Link
link_at t n = slice_index_or t.passages.items n no_link

-- the place that the passage n of the table leaves
abbrev pub place_from : Table → ℕ → ℕ
place_from t n = (link_at t n).passage.from

-- what f reads off each place
abbrev pub each_place : {X : Type 0} → (Place → X) → Table → List X
each_place f t = map f t.places.items

-- the table with g as the best of the place s
abbrev pub with_best : Table → ℕ → ℕ → Table
with_best t s g = record {
  places = with_item t.places s (record { first = (place_at t s).first; best = Some g; leading = (place_at t s).leading; second = (place_at t s).second });
  passages = t.passages;
}

abbrev pub Roomy : Book → Type 0
Roomy b = (length b.records.items ≤ 2048) × (length b.choices.items ≤ 2048)

abbrev pub record_in : Book → ℕ → Record
record_in b n = slice_index_or b.records.items n no_record

-- the table with the passage n as the first of the place that it leaves, in front of the one that was
abbrev pub with_first : Table → ℕ → Table
with_first t n = record {
  places = with_item t.places (place_from t n) (record { first = Some n; best = (place_at t (place_from t n)).best; leading = (place_at t (place_from t n)).leading; second = (place_at t (place_from t n)).second });
  passages = with_item t.passages n (record { passage = (link_at t n).passage; next = (place_at t (place_from t n)).first });
}

-- the book with the record n as its next choice
abbrev pub with_choice : Book → ℕ → Book
with_choice b n = record { records = b.records; choices = record { items = b.choices.items ++ n ∷ [] }; opened = b.opened; dropped = b.dropped }

abbrev pub passages_in : Table → List Passage
passages_in t = map (λ (l : Link). l.passage) t.passages.items

abbrev pub building_in : Kind → Kind → Table → Building
building_in k m t = record { leading = k; second = m; places = length t.places.items; passages = passages_in t }

abbrev pub task_in : Kind → Kind → Table → Ends → ℕ → Task
task_in k m t ends slots = record {
  building = building_in k m t;
  start = ends.start;
  goal = ends.goal;
  leading = each_place (λ s. s.leading) t;
  second = each_place (λ s. s.second) t;
  slots = slots;
}

abbrev pub state_in : Table → Book → List Entry → State
state_in t b waiting = record {
  records = b.records.items;
  bests = each_place (λ s. s.best) t;
  waiting = waiting;
  choices = b.choices.items;
  opened = b.opened;
  shown = length b.choices.items;
  dropped = b.dropped;
}

-- no passage numbered from k on and below n leaves s
abbrev pub NoneFrom : List Passage → ℕ → ℕ → ℕ → Type 0
NoneFrom ps s k n = (i : ℕ) → k ≤ i → i < n → (get_or ps i no_passage).from ≢ s

abbrev pub FirstFrom : List Passage → ℕ → ℕ → Option ℕ → Type 0
FirstFrom ps s k None = NoneFrom ps s k (length ps)
FirstFrom ps s k (Some n) = (k ≤ n) × (n < length ps) × ((get_or ps n no_passage).from ≡ s) × NoneFrom ps s k n

-- there is at most one proof of it, as a fact in a type has to have
NoneFrom-prop : (ps : List Passage) (s k n : ℕ) → IsProp (NoneFrom ps s k n)
NoneFrom-prop ps s k n = Π_prop (λ i. →_prop (→_prop (→_prop (λ x y. absurd x))))

pub FirstFrom-prop : (ps : List Passage) (s k : ℕ) (o : Option ℕ) → IsProp (FirstFrom ps s k o)
FirstFrom-prop ps s k None = NoneFrom-prop ps s k (length ps)
FirstFrom-prop ps s k (Some n) = λ u v i. (le_prop u.0 v.0 i, le_prop u.1 v.1 i, Coded-set coded_ℕ _ _ u.2 v.2 i, NoneFrom-prop ps s k n u.3 v.3 i)

pub record Indexed (t : Table) : Type 0 where
  pub first : (s : ℕ) → s < length t.places.items → FirstFrom (passages_in t) s 0 (place_at t s).first
  pub next : (n : ℕ) → n < length (passages_in t) → FirstFrom (passages_in t) (get_or (passages_in t) n no_passage).from (suc n) (link_at t n).next

pub record Unlinked (t : Table) : Type 0 where
  pub none : (s : ℕ) → s < length t.places.items → (place_at t s).first ≡ None
  pub leaves : (n : ℕ) → n < length (passages_in t) → (get_or (passages_in t) n no_passage).from < length t.places.items

pub record Copied (bs : List ℕ) (t : Table) : Type 0 where
  pub places : t.places.items ≡ replicate (surveyed.places bs) no_place
  pub passages : passages_in t ≡ passage_list bs

pub record Linked (t u : Table) : Type 0 where
  pub places : length u.places.items ≡ length t.places.items
  pub passages : passages_in u ≡ passages_in t
  pub indexed : Indexed u

pub record Filled (bs : List ℕ) (t : Table) : Type 0 where
  pub places : length t.places.items ≡ surveyed.places bs
  pub passages : passages_in t ≡ passage_list bs
  pub indexed : Indexed t

-- each accepted step of the rules counts once
pub record Reached (task : Task) (s : State) : Type 0 where
  pub asked : Passed (task_questions task)
  pub is : s ≡ after task (accepted s)

abbrev pub Searching : Phase → (Ends → Task) → State → Type 0
Searching x task s = (ends : Ends) → x ≡ Opened ends → Reached (task ends) s

abbrev pub stage_at : Phase → Building → (Ends → Task) → State → Stage
stage_at Bare b task s = bare
stage_at Loaded b task s = loaded b
stage_at (Opened ends) b task s = opened (task ends) s
