-- What a record opens up to, read off a table. Assumes nothing.
--   aim_in k m t e               the task in the table t between the ends e; how many slots it has does not matter to children
--   bests_with t r               the bests in the table, with that of the place of r at its second total
--   child_with task r            the record r with its estimates
--   kids_of k m t e n r          the children of the record r with the number n
--   Opens k m t e r              what opening up r needs
--   Added task rs b es b' es'    the records rs are stored, and their entries wait
use Rattle.std.specs.Prelude.{◌≡◌, ℕ, ◌<◌, true, cond, List, [], ◌∷◌, ◌++◌, length, Some, None, Option, ◌≢◌, slice_set}
use Rattle.costs.specs.Kinds.{Kind}
use Rattle.costs.specs.declared.entry.Entry.{Entry}
use Rattle.plan.specs.declared.book.Book.{Book}
use Rattle.plan.specs.declared.children.Child.{Child}
use Rattle.plan.specs.declared.record.Record.{Record}
use Rattle.plan.specs.declared.state.Ends.{Ends}
use Rattle.plan.specs.declared.table.Table.{Table}
use Rattle.plan.specs.Rules.{Task, useless, child_along, children_from, lead_estimate, second_estimate, put_all}
use Rattle.plan.specs.Joins.{ChildJoins}
use Rattle.plan.specs.Openings.{FairBuilding}
use Rattle.plan.specs.Views.{task_in, each_place, passages_in, building_in, Indexed}

abbrev pub aim_in : Kind → Kind → Table → Ends → Task
aim_in k m t ends = task_in k m t ends 0

abbrev pub bests_with : Table → Record → List (Option ℕ)
bests_with t r = slice_set (each_place (λ s. s.best) t) r.place (Some r.second)

abbrev pub child_with : Task → Record → Child
child_with task r = record { found = r; leading = lead_estimate task r; second = second_estimate task r }

-- the child by the passage n, if it is of use
abbrev pub child_answer : Kind → Kind → Table → Ends → ℕ → Record → ℕ → Option Child
child_answer k m t ends number r n =
    cond (useless (aim_in k m t ends) (bests_with t r) (child_along (aim_in k m t ends) number r n)) None (Some (child_with (aim_in k m t ends) (child_along (aim_in k m t ends) number r n)))

abbrev pub kids_of : Kind → Kind → Table → Ends → ℕ → Record → List Record
kids_of k m t ends number r = children_from (aim_in k m t ends) (bests_with t r) number r 0 (passages_in t)

pub record Opens (k m : Kind) (t : Table) (ends : Ends) (r : Record) : Type 0 where
  pub building : FairBuilding (building_in k m t)
  pub indexed : Indexed t
  pub place : r.place < length t.places.items
  pub goal : ends.goal < length t.places.items
  pub elsewhere : r.place ≢ ends.goal
  pub second : m.is_value r.second ≡ true
  pub joins : (n : ℕ) → n < length (passages_in t) → ChildJoins (aim_in k m t ends) r n

-- one record more
abbrev pub with_record : Book → Record → Book
with_record b r = record { records = record { items = b.records.items ++ r ∷ [] }; choices = b.choices; opened = b.opened; dropped = b.dropped }

-- the children were stored in the book b, and their entries put to es, which gave b' and es'
pub record Added (task : Task) (children : List Record) (b : Book) (es : List Entry) (b' : Book) (es' : List Entry) : Type 0 where
  pub records : b'.records.items ≡ b.records.items ++ children
  pub choices : b'.choices ≡ b.choices
  pub opened : b'.opened ≡ b.opened
  pub dropped : b'.dropped ≡ b.dropped
  pub waiting : es' ≡ put_all task (length b.records.items) children es
