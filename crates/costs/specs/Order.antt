-- The order of entries: by the leading estimate, then the second, then the record number. Assumes nothing.
--   entry_of m n k            the entry of the estimates m and n and the record k
--   blank                     the entry of zeros, which is read past the end of a list
--   by_first_differing a b    a has the less of the first numbers in which they differ
--   before a b                the same, shut: what is proved of the order rests on its laws
--   Least a es                no entry of es is less than a
--   LeastTo es i n            none of the first n entries of es is less than the one at i
--   Rising es                 each entry is least among those from it on
use Rattle.std.specs.Prelude.{◌≡◌, ℕ, ◌<◌, Bool, false, cond, List, [], ◌∷◌, ◌==◌, nat_lt, slice_index_or}
use Rattle.costs.specs.declared.entry.Entry.{Entry}

abbrev pub entry_of : ℕ → ℕ → ℕ → Entry
entry_of m n k = record { leading = m; second = n; «record» = k }

abbrev pub blank : Entry
blank = entry_of 0 0 0

-- by the first numbers where they differ, otherwise by the rest
abbrev pub first_else : ℕ → ℕ → Bool → Bool
first_else m n rest = cond (m == n) rest (nat_lt m n)

abbrev pub by_first_differing : Entry → Entry → Bool
by_first_differing a b =
    first_else a.leading b.leading (first_else a.second b.second (nat_lt a.record b.record))

unfoldable pub before : Entry → Entry → Bool
before = by_first_differing

abbrev pub Least : Entry → List Entry → Type 0
Least a [] = Unit {0}
Least a (e ∷ es) = (before e a ≡ false) × Least a es

abbrev pub LeastTo : List Entry → ℕ → ℕ → Type 0
LeastTo es i n = (k : ℕ) → k < n → before (slice_index_or es k blank) (slice_index_or es i blank) ≡ false

abbrev pub Rising : List Entry → Type 0
Rising [] = Unit {0}
Rising (e ∷ es) = Least e es × Rising es
