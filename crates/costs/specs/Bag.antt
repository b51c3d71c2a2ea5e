-- What an open list means: the bag of its entries, as the list of them in rising order. Assumes nothing.
-- Equal bags are then equal lists.
--   inserted e es      the rising list es with e in its place
--   sorted es          the bag of the entries es, in whatever order they stand
--   first es           the least entry of a bag, or none
--   rest es            a bag without its least entry
--   full n es          the bag es fills n slots
--   put_answer n es    what putting an entry answers, with the bag es and n slots
--   put_bag n e es     the bag after that, where e was the entry
--   Sound es n         what holds of every open list with the bag es and n slots
use Rattle.std.specs.Prelude.{ℕ, ◌≤◌, Bool, cond, List, [], ◌∷◌, length, Some, None, Ok, Err, Option, Result, ◌==◌}
use Rattle.costs.specs.declared.full.Full.{Full}
use Rattle.costs.specs.declared.entry.Entry.{Entry}
use Rattle.costs.specs.Order.{before, Rising}

unfoldable pub inserted : Entry → List Entry → List Entry
inserted a [] = a ∷ []
inserted a (e ∷ es) = cond (before e a) (e ∷ inserted a es) (a ∷ e ∷ es)

abbrev pub sorted : List Entry → List Entry
sorted [] = []
sorted (e ∷ es) = inserted e (sorted es)

abbrev pub first : List Entry → Option Entry
first [] = None
first (e ∷ es) = Some e

abbrev pub rest : List Entry → List Entry
rest [] = []
rest (e ∷ es) = es

abbrev pub full : ℕ → List Entry → Bool
full n es = length es == n

abbrev pub put_answer : ℕ → List Entry → Result Unit Full
put_answer n es = cond (full n es) (Err (record {})) (Ok tt)

abbrev pub put_bag : ℕ → Entry → List Entry → List Entry
put_bag n e es = cond (full n es) es (inserted e es)

pub record Sound (es : List Entry) (n : ℕ) : Type 0 where
  pub rising : Rising es
  pub within : length es ≤ n
  pub limit : n ≤ 2048
