-- How many steps there can be. Assumes nothing.
use Rattle.std.proofs.Common.{◌≡◌, ℕ, suc, ◌+◌, ◌≤◌, List, [], ◌∷◌, length, refl, ap, arith, length-append}
use Rattle.costs.specs.Bag.{inserted}
use Rattle.costs.specs.declared.entry.Entry.{Entry}
use Rattle.costs.specs.Bags.{length_inserted}
use Rattle.plan.specs.declared.record.Record.{Record}
use Rattle.plan.specs.Rules.{Task, State, entry_for, put_all, accepted, after}
use Rattle.plan.specs.Openings.{Fair}
use Rattle.plan.proofs.Steps.{kids, always}

length_put : (task : Task) (n : ℕ) (rs : List Record) (es : List Entry) → length (put_all task n rs es) ≡ length rs + length es
length_put task n [] es = omega arith
length_put task n (r ∷ rs) es = omega (arith, length_put task (suc n) rs (inserted (entry_for task n r) es), length_inserted (entry_for task n r) es)

pub record Counted (task : Task) (s : State) : Type 0 where
  pub counts : accepted s + length s.waiting ≡ length s.records
  pub room : length s.records ≤ task.slots

pub counted_after : (task : Task) → Fair task → (n : ℕ) → Counted task (after task n)
counted_after task fair = always task (Counted task) (record { counts = refl; room = omega (arith, fair.some_slot) }) (λ n c e es first. record {
  dropped = λ no_use. record { counts = omega (arith, ap length first); room = c.room };
  shown = λ of_use at_goal. record { counts = omega (arith, ap length first); room = c.room };
  opened = λ of_use elsewhere enough.
      let long = length-append (after task n).records (kids task (after task n) e) in
      record { counts = omega (arith, ap length first, length_put task (length (after task n).records) (kids task (after task n) e) es); room = omega arith };
})
