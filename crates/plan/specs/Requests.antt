-- What an opening is asked for, and what it writes before the search begins. Assumes nothing.
--   task_for e l s n b    the task between the ends e in the building b, with the forecasts l and s and n slots
--   requested q b         the task that the request q asks for in the building b
--   Listed t q            the request q has as many forecasts of each cost as the table t has places
--   agrees_along k f p v  the forecasts f of the kind k are consistent along the passage p, with the value v
--   both_agree task n     both lists of forecasts of the task are consistent along its passage n
--   Comparable k f p v    both ends of the passage p have a forecast, and its value v joins with the one behind it
--   Prepared t q u        the table u is t, but its places have the forecasts of the request q and no best
--   begun_book s          the book with one record, at the place s, and no choice
use Rattle.std.specs.Prelude.{◌≡◌, ℕ, ◌<◌, Bool, ◌&&◌, List, [], ◌∷◌, length, None, slice_index}
use Rattle.costs.specs.Kinds.{Kind}
use Rattle.survey.specs.declared.passage.Passage.{Passage}
use Rattle.plan.specs.declared.book.Book.{Book}
use Rattle.plan.specs.declared.place.Place.{Place}
use Rattle.plan.specs.declared.request.Request.{Request}
use Rattle.plan.specs.declared.state.Ends.{Ends}
use Rattle.plan.specs.declared.table.Table.{Table}
use Rattle.plan.specs.Ways.{Building, passage}
use Rattle.plan.specs.Rules.{Task}
use Rattle.plan.specs.Joins.{Joined}
use Rattle.plan.specs.Openings.{consistent}
use Rattle.plan.specs.Views.{place_at}

-- the task from start to goal with two lists of forecasts
abbrev pub task_for : Ends → List ℕ → List ℕ → ℕ → Building → Task
task_for ends leading second slots b = record { building = b; start = ends.start; goal = ends.goal; leading = leading; second = second; slots = slots }

abbrev pub requested : Request → Building → Task
requested q b = task_for q.ends q.leading.now q.second.now q.slots b

pub record Listed (t : Table) (q : Request) : Type 0 where
  pub leading : length q.leading.now ≡ length t.places.items
  pub second : length q.second.now ≡ length t.places.items

abbrev pub agrees_along : Kind → List ℕ → Passage → ℕ → Bool
agrees_along k forecasts p value = consistent k (slice_index forecasts p.from) value (slice_index forecasts p.to)

-- both lists of forecasts of the task are consistent along its passage n
abbrev pub both_agree : Task → ℕ → Bool
both_agree task n =
    agrees_along task.building.leading task.leading (passage task.building n) (passage task.building n).leading && agrees_along task.building.second task.second (passage task.building n) (passage task.building n).second

pub record Comparable (k : Kind) (forecasts : List ℕ) (p : Passage) (value : ℕ) : Type 0 where
  pub from : p.from < length forecasts
  pub to : p.to < length forecasts
  pub joins : Joined k value (slice_index forecasts p.to)

-- the place s of the table t with the forecasts of the request q
abbrev pub prepared_place : Table → Request → ℕ → Place
prepared_place t q s = record { first = (place_at t s).first; best = None; leading = slice_index q.leading.now s; second = slice_index q.second.now s }

pub record Prepared (t : Table) (q : Request) (u : Table) : Type 0 where
  pub passages : u.passages ≡ t.passages
  pub places : length u.places.items ≡ length t.places.items
  pub each : (s : ℕ) → s < length t.places.items → place_at u s ≡ prepared_place t q s

abbrev pub begun_book : ℕ → Book
begun_book start = record {
  records = record { items = record { place = start; leading = 0; second = 0; parent = None; passage = 0 } ∷ [] };
  choices = record { items = [] };
  opened = 0;
  dropped = 0;
}
