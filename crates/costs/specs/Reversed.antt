-- Entries in reversed order, of which the library's heap serves the least first. Assumes nothing.
--   by_fields a b      how a compares to b, as the derived order has it
--   by_reverse x y     the same, of entries in reversed order
--   unreversed xs      the entries of xs
use Rattle.std.specs.Prelude.{List, map}
use Rattle.std.specs.Ordering.{nat_cmp, ordering_then}
use Rattle.std.specs.declared.cmp.Ordering.{Ordering}
use Rattle.std.specs.declared.cmp.Reverse.{Reverse}
use Rattle.costs.specs.declared.entry.Entry.{Entry}

abbrev pub by_fields : Entry → Entry → Ordering
by_fields a b = ordering_then (nat_cmp a.leading b.leading) (ordering_then (nat_cmp a.second b.second) (nat_cmp a.record b.record))

abbrev pub by_reverse : Reverse Entry → Reverse Entry → Ordering
by_reverse x y = by_fields y.0 x.0

abbrev pub unreversed : List (Reverse Entry) → List Entry
unreversed xs = map (λ x. x.0) xs
