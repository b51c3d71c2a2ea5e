use Rattle.std.proofs.Common.{◌≡◌, ℕ, ◌<◌, ◌≤◌, length, slice_index_or}
use Rattle.plan.specs.Requests.{prepared_place}
use Rattle.plan.specs.Views.{no_place, place_at}
use Rattle.plan.proofs.table.Table.prepare.Given as goal

-- the places below `at` are written, and the others as they were
abbrev pub invariant-loop-at : goal.invariant-loop-at
invariant-loop-at l =
    (length l.place-items ≡ length l.fn.self.places.items) ×
    ((s : ℕ) → s < l.at → slice_index_or l.place-items s no_place ≡ prepared_place l.fn.self l.request s) ×
    ((s : ℕ) → l.at ≤ s → slice_index_or l.place-items s no_place ≡ place_at l.fn.self s)
