-- The rules of the search, step by step. Assumes nothing.
--   Task                 a building, start and goal, two lists of forecasts, and the number of slots
--   State                records, the best second total of each place, the waiting entries, choices, three counts
--   begun task           the state after an opening
--   useless task bs r    with the bests bs, the place of r has one that is at most its second total, or the goal one that is at
--                        most its second estimate
--   children_from ..     what a record opens up to
--   stepped task s       what a step answers, and the state after it
--   choice_pairs s       the totals of the choices shown, in order
--   choice_pair s i      the totals of the choice i
--   accepted s           how many steps were accepted
--   after task n         the state after n steps, refused ones among them
use Rattle.std.specs.Prelude.{ℕ, zero, suc, ◌+◌, ◌-◌, Bool, false, cond, not, ◌&&◌, ◌||◌, List, [], ◌∷◌, ◌++◌, length, replicate, Some, None, Option, ◌==◌, nat_le, slice_index, slice_index_or, slice_set}
use Rattle.costs.specs.Bag.{inserted}
use Rattle.costs.specs.Order.{entry_of}
use Rattle.costs.specs.declared.entry.Entry.{Entry}
use Rattle.survey.specs.declared.passage.Passage.{Passage}
use Rattle.plan.specs.declared.record.Record.{Record}
use Rattle.plan.specs.Ways.{Building, Pair, passage}

pub record Task : Type 0 where
  pub building : Building
  pub start : ℕ
  pub goal : ℕ
  pub leading : List ℕ
  pub second : List ℕ
  pub slots : ℕ

pub record State : Type 0 where
  pub records : List Record
  pub bests : List (Option ℕ)
  pub waiting : List Entry
  pub choices : List ℕ
  pub opened : ℕ
  pub shown : ℕ
  pub dropped : ℕ

abbrev pub no_record : Record
no_record = record { place = 0; leading = 0; second = 0; parent = None; passage = 0 }

abbrev pub record_at : State → ℕ → Record
record_at s n = slice_index_or s.records n no_record

abbrev pub lead_estimate : Task → Record → ℕ
lead_estimate task r = task.building.leading.joined r.leading (slice_index task.leading r.place)

abbrev pub second_estimate : Task → Record → ℕ
second_estimate task r = task.building.second.joined r.second (slice_index task.second r.place)

-- there is a best, and it is at most n
abbrev pub at_most : Option ℕ → ℕ → Bool
at_most None n = false
at_most (Some b) n = nat_le b n

abbrev pub best_at : List (Option ℕ) → ℕ → Option ℕ
best_at bests s = slice_index_or bests s None

abbrev pub useless : Task → List (Option ℕ) → Record → Bool
useless task bests r = at_most (best_at bests r.place) r.second || at_most (best_at bests task.goal) (second_estimate task r)

abbrev pub entry_for : Task → ℕ → Record → Entry
entry_for task n r = entry_of (lead_estimate task r) (second_estimate task r) n

abbrev pub first_record : Task → Record
first_record task = record { place = task.start; leading = 0; second = 0; parent = None; passage = 0 }

abbrev pub begun : Task → State
begun task = record {
  records = first_record task ∷ [];
  bests = replicate task.building.places None;
  waiting = entry_for task 0 (first_record task) ∷ [];
  choices = [];
  opened = 0;
  shown = 0;
  dropped = 0;
}

-- the record behind the passage n, opened up from the record r with the number parent
abbrev pub child_along : Task → ℕ → Record → ℕ → Record
child_along task parent r n = record {
  place = (passage task.building n).to;
  leading = task.building.leading.joined r.leading (passage task.building n).leading;
  second = task.building.second.joined r.second (passage task.building n).second;
  parent = Some parent;
  passage = n;
}

-- the children by the passages from number n on that leave the place of r, in file order, where they are of use
abbrev pub children_from : Task → List (Option ℕ) → ℕ → Record → ℕ → List Passage → List Record
children_from task bests parent r n [] = []
children_from task bests parent r n (p ∷ ps) =
    cond (p.from == r.place && not (useless task bests (child_along task parent r n)))
    (child_along task parent r n ∷ children_from task bests parent r (suc n) ps)
    (children_from task bests parent r (suc n) ps)

-- entries for the records, numbered from n on, put to those that wait
abbrev pub put_all : Task → ℕ → List Record → List Entry → List Entry
put_all task n [] es = es
put_all task n (r ∷ rs) es = put_all task (suc n) rs (inserted (entry_for task n r) es)

pub data Answer : Type 0 where
  dropped : Answer
  shown : Answer
  opened : ℕ → Answer
  refused : ℕ → Answer

pub record Stepped : Type 0 where
  pub answer : Answer
  pub next : State

abbrev pub after_drop : State → List Entry → Stepped
after_drop s es = record {
  answer = dropped;
  next = record { records = s.records; bests = s.bests; waiting = es; choices = s.choices; opened = s.opened; shown = s.shown; dropped = suc s.dropped };
}

abbrev pub after_show : State → List Entry → ℕ → Record → Stepped
after_show s es n r = record {
  answer = shown;
  next = record { records = s.records; bests = slice_set s.bests r.place (Some r.second); waiting = es; choices = s.choices ++ n ∷ []; opened = s.opened; shown = suc s.shown; dropped = s.dropped };
}

abbrev pub after_open : Task → State → List Entry → Record → List Record → Stepped
after_open task s es r children = record {
  answer = opened (length children);
  next = record { records = s.records ++ children; bests = slice_set s.bests r.place (Some r.second); waiting = put_all task (length s.records) children es; choices = s.choices; opened = suc s.opened; shown = s.shown; dropped = s.dropped };
}

abbrev pub opening_up : Task → State → List Entry → Record → List Record → Stepped
opening_up task s es r children =
    cond (nat_le (length children) (task.slots - length s.records)) (after_open task s es r children) (record { answer = refused 21; next = s })

abbrev pub step_on : Task → State → List Entry → ℕ → Record → Stepped
step_on task s es n r =
    cond (useless task s.bests r) (after_drop s es)
    (cond (r.place == task.goal) (after_show s es n r)
    (opening_up task s es r (children_from task (slice_set s.bests r.place (Some r.second)) n r 0 task.building.passages)))

abbrev pub step_from : Task → State → List Entry → Stepped
step_from task s [] = record { answer = refused 20; next = s }
step_from task s (e ∷ es) = step_on task s es e.record (record_at s e.record)

abbrev pub stepped : Task → State → Stepped
stepped task s = step_from task s s.waiting

abbrev pub pair_of : Record → Pair
pair_of r = record { lead = r.leading; second = r.second }

-- the totals of the choices shown, in the order in which they were shown
abbrev pub pairs_in : List Record → List ℕ → List Pair
pairs_in rs [] = []
pairs_in rs (n ∷ ns) = pair_of (slice_index_or rs n no_record) ∷ pairs_in rs ns

abbrev pub choice_pairs : State → List Pair
choice_pairs s = pairs_in s.records s.choices

abbrev pub choice_pair : State → ℕ → Pair
choice_pair s i = pair_of (record_at s (slice_index s.choices i))

abbrev pub accepted : State → ℕ
accepted s = s.opened + (s.shown + s.dropped)

abbrev pub after : Task → ℕ → State
after task zero = begun task
after task (suc n) = (stepped task (after task n)).next
