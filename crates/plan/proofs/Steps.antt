-- A step of the rules, case by case. Assumes nothing.
--   seen s e             the record of the entry e
--   bests_then s e       the bests once it is shown or opened up
--   kids task s e        the children that it opens up to
--   Kid task s e c       c is the child by a passage that leaves its place
--   Cases task P s e es  that P holds after each accepted step on e, with the entries es behind it
use Rattle.std.proofs.Common.{◌≡◌, ℕ, zero, suc, ◌-◌, ◌<◌, ◌≤◌, true, false, eqb, leb, List, [], ◌∷◌, ◌++◌, length, get_or, set, Some, Option, refl, ap, ◌∙◌, zero-add, below_none, below_more}
use Rattle.std.proofs.ByRecursion.{All-get_or, All-from_get_or, All-append}
use Rattle.std.proofs.lemmas.Bool.{cond_both, leb-true}
use Rattle.costs.specs.declared.entry.Entry.{Entry}
use Rattle.plan.specs.declared.record.Record.{Record}
use Rattle.plan.specs.Ways.{passage}
use Rattle.plan.specs.Rules.{Task, State, no_record, begun, record_at, useless, child_along, children_from, after_drop, after_show, after_open, step_from, after, Stepped}
use Rattle.plan.proofs.Entries.{each_child}

abbrev pub seen : State → Entry → Record
seen s e = record_at s e.record

abbrev pub bests_then : State → Entry → List (Option ℕ)
bests_then s e = set s.bests (seen s e).place (Some (seen s e).second)

abbrev pub kids : Task → State → Entry → List Record
kids task s e = children_from task (bests_then s e) e.record (seen s e) 0 task.building.passages

-- an opening stores one record
pub only_first : (Q : ℕ → Type 0) → Q 0 → (k : ℕ) → k < 1 → Q k
only_first Q first = below_more Q 0 (below_none Q) first

-- what is so of each record and of each child is so of each record afterwards
pub each_more : (Q : Record → Type 0) (rs more : List Record) → ((k : ℕ) → k < length rs → Q (get_or rs k no_record)) → ((i : ℕ) → i < length more → Q (get_or more i no_record)) → (k : ℕ) → k < length (rs ++ more) → Q (get_or (rs ++ more) k no_record)
each_more Q rs more old new k h = All-get_or Q (rs ++ more) k no_record h (All-append Q rs more (All-from_get_or Q rs no_record old) (All-from_get_or Q more no_record new))

module _ (task : Task) where
  pub record Kid (s : State) (e : Entry) (c : Record) : Type 0 where
    pub by : ℕ
    pub inside : by < length task.building.passages
    pub leaves : (passage task.building by).from ≡ (seen s e).place
    pub is : c ≡ child_along task e.record (seen s e) by

  pub each_kid : (s : State) (e : Entry) (i : ℕ) → i < length (kids task s e) → Kid s e (get_or (kids task s e) i no_record)
  each_kid s e i h =
      let found = each_child task (bests_then s e) e.record (seen s e) 0 task.building.passages i h in
      record { by = found.k; inside = found.inside; leaves = found.leaves; is = found.is ∙ ap (child_along task e.record (seen s e)) (zero-add found.k) }

  module _ (P : State → Type 0) (s : State) where
    pub record Cases (e : Entry) (es : List Entry) : Type 0 where
      pub dropped : useless task s.bests (seen s e) ≡ true → P (after_drop s es).next
      pub shown : useless task s.bests (seen s e) ≡ false → eqb (seen s e).place task.goal ≡ true → P (after_show s es e.record (seen s e)).next
      pub opened : useless task s.bests (seen s e) ≡ false → eqb (seen s e).place task.goal ≡ false → length (kids task s e) ≤ task.slots - length s.records → P (after_open task s es (seen s e) (kids task s e)).next

    -- a refused step changes nothing
    step_cases : P s → (w : List Entry) → ((e : Entry) (es : List Entry) → w ≡ e ∷ es → Cases e es) → P (step_from task s w).next
    step_cases before [] cases = before
    step_cases before (e ∷ es) cases =
        let c = cases e es refl in
        cond_both (useless task s.bests (seen s e)) _ _ (λ (t : Stepped). P t.next) c.dropped
        (λ of_use. cond_both (eqb (seen s e).place task.goal) _ _ (λ (t : Stepped). P t.next) (c.shown of_use)
        (λ elsewhere. cond_both (leb (length (kids task s e)) (task.slots - length s.records)) _ _ (λ (t : Stepped). P t.next)
        (λ enough. c.opened of_use elsewhere (leb-true _ _ enough)) (λ wanting. before)))

  -- what holds of an opening and after each accepted step holds after every number of steps
  pub always : (P : State → Type 0) → P (begun task) → ((n : ℕ) → P (after task n) → (e : Entry) (es : List Entry) → (after task n).waiting ≡ e ∷ es → Cases P (after task n) e es) → (n : ℕ) → P (after task n)
  always P at_first cases zero = at_first
  always P at_first cases (suc n) = let p = always P at_first cases n in step_cases P (after task n) p (after task n).waiting (cases n p)
