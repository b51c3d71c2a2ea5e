-- Every record was opened up from one before it, and every choice is at the goal. Assumes nothing.
use Rattle.std.proofs.Common.{◌≡◌, ℕ, ◌+◌, ◌-◌, ◌<◌, true, eqb, List, [], ◌∷◌, ◌++◌, length, get_or, sym, refl, ap, ◌∙◌, subst, inl, inr, arith, length-append}
use Rattle.std.proofs.lemmas.List.{get_or_append_left, get_or-append-add, get_or_push, length_push}
use Rattle.std.proofs.lemmas.Bool.{cases_lt, eqb-true}
use Rattle.costs.specs.declared.entry.Entry.{Entry}
use Rattle.plan.specs.declared.record.Record.{Record}
use Rattle.plan.specs.Rules.{Task, State, no_record, begun, child_along, after}
use Rattle.plan.specs.Openings.{Fair}
use Rattle.plan.proofs.Steps.{seen, kids, only_first, each_kid, Cases, always}
use Rattle.plan.proofs.Climbs.{Born, first, opened_from}
use Rattle.plan.proofs.Runs.{stored_now, goes_after}

module _ (task : Task) where
  pub record AtGoal (rs : List Record) (n : ℕ) : Type 0 where
    pub stored : n < length rs
    pub there : (get_or rs n no_record).place ≡ task.goal

  pub record Bred (s : State) : Type 0 where
    pub born : (k : ℕ) → k < length s.records → Born task s.records k
    pub at_goal : (i : ℕ) → i < length s.choices → AtGoal s.records (get_or s.choices i 0)

  born_more : (rs more : List Record) (k : ℕ) → k < length rs → Born task rs k → Born task (rs ++ more) k
  born_more rs more k inside (first is) = first (get_or_append_left rs more no_record k inside ∙ is)
  born_more rs more k inside (opened_from m n lower there leaves is) =
      let same = get_or_append_left rs more no_record m (omega arith) in
      opened_from m n lower there (leaves ∙ ap (λ (r : Record). r.place) (sym same)) (get_or_append_left rs more no_record k inside ∙ is ∙ ap (λ (r : Record). child_along task m r n) (sym same))

  module _ (s : State) (b : Bred s) (e : Entry) (es : List Entry) (stored : e.record < length s.records) where
    abbrev more : List Record
    more = s.records ++ kids task s e

    born_kid : (i : ℕ) → i < length (kids task s e) → Born task more (length s.records + i)
    born_kid i inside =
        let found = each_kid task s e i inside in
        let parent = get_or_append_left s.records (kids task s e) no_record e.record stored in
        opened_from e.record found.by (omega arith) found.inside (found.leaves ∙ ap (λ (r : Record). r.place) (sym parent))
        (get_or-append-add s.records (kids task s e) i no_record ∙ found.is ∙ ap (λ (r : Record). child_along task e.record r found.by) (sym parent))

    born_all : (k : ℕ) → k < length more → Born task more k
    born_all k inside =
        elim (cases_lt k (length s.records)) [
          | inl old ↦ born_more s.records (kids task s e) k old (b.born k old)
          | inr new ↦
              let same : length s.records + (k - length s.records) ≡ k = omega arith in
              subst (Born task more) same (born_kid (k - length s.records) (omega (arith, length-append s.records (kids task s e))))
        ]

    shown_at : eqb (seen s e).place task.goal ≡ true → (i : ℕ) → i < length (s.choices ++ e.record ∷ []) → AtGoal s.records (get_or (s.choices ++ e.record ∷ []) i 0)
    shown_at here i inside =
        elim (cases_lt i (length s.choices)) [
          | inl old ↦ subst (AtGoal s.records) (sym (get_or_append_left s.choices (e.record ∷ []) 0 i old)) (b.at_goal i old)
          | inr new ↦
              let same : length s.choices ≡ i = omega (arith, length_push s.choices e.record) in
              subst (AtGoal s.records) (sym (get_or_push s.choices e.record 0 i same)) (record { stored = stored; there = eqb-true _ _ here })
        ]

    bred_cases : Cases task Bred s e es
    bred_cases = record {
      dropped = λ no_use. record { born = b.born; at_goal = b.at_goal };
      shown = λ of_use here. record { born = b.born; at_goal = shown_at here };
      opened = λ of_use elsewhere enough. record {
        born = born_all;
        at_goal = λ i inside.
            let was = b.at_goal i inside in
            record {
              stored = omega (arith, was.stored, length-append s.records (kids task s e));
              there = ap (λ (r : Record). r.place) (get_or_append_left s.records (kids task s e) no_record (get_or s.choices i 0) was.stored) ∙ was.there;
            };
      };
    }

pub bred_after : (task : Task) → Fair task → (n : ℕ) → Bred task (after task n)
bred_after task fair = always task (Bred task) (record { born = only_first (Born task (begun task).records) (first refl); at_goal = λ i inside. absurd (omega arith) })
    (λ n b e es waits. bred_cases task (after task n) b e es (stored_now task fair (after task n) (goes_after task fair n) e es waits))
