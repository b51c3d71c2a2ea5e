-- What is read off a table by the numbers of places and passages. Assumes nothing.
use Rattle.std.proofs.Common.{◌≡◌, ℕ, ◌<◌, length, get_or}
use Rattle.std.proofs.lemmas.List.{get_or-map, length-map}
use Rattle.plan.specs.declared.place.Place.{Place}
use Rattle.plan.specs.declared.table.Link.{Link}
use Rattle.plan.specs.declared.table.Table.{Table}
use Rattle.plan.specs.Ways.{no_passage}
use Rattle.plan.specs.Views.{no_link, no_place, place_at, link_at, each_place, passages_in}

pub each_at : {X : Type 0} (f : Place → X) (d : X) (t : Table) (s : ℕ) → s < length t.places.items → get_or (each_place f t) s d ≡ f (place_at t s)
each_at f d t s inside = get_or-map f t.places.items s no_place d inside

pub many_passages : (t : Table) → length (passages_in t) ≡ length t.passages.items
many_passages t = length-map t.passages.items (λ (l : Link). l.passage)

pub link_is : (t : Table) (n : ℕ) → n < length t.passages.items → get_or (passages_in t) n no_passage ≡ (link_at t n).passage
link_is t n inside = get_or-map (λ (l : Link). l.passage) t.passages.items n no_link no_passage inside
