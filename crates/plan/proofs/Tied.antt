-- Each step of the rules is a step of the abstract search. Assumes nothing.
use Rattle.std.proofs.Common.{◌≡◌, ℕ, ◌+◌, ◌<◌, true, false, ◌⊎◌, List, [], ◌∷◌, length, get_or, sym, refl, ap, ◌∙◌, subst, inl, inr, arith, length-append}
use Rattle.std.proofs.lemmas.List.{get_or_append_left, get_or-append-add}
use Rattle.std.proofs.lemmas.Bool.{cases_Bool, both_ways}
use Rattle.costs.specs.Order.{before, Least, Rising}
use Rattle.costs.specs.declared.entry.Entry.{Entry}
use Rattle.costs.specs.Ordered.{never_itself, not_before}
use Rattle.plan.specs.declared.record.Record.{Record}
use Rattle.plan.specs.Ways.{passage}
use Rattle.plan.specs.Rules.{Task, State, record_at, no_record, useless, entry_for, child_along, after_drop, after_show, after_open}
use Rattle.plan.specs.Openings.{Fair}
use Rattle.plan.proofs.Search.{In, top, below, nowhere, Node, lead_estimate_at, second_estimate_at, child, NoLater, NoWorse, Blocked, Answered, blocked, waits, Holds, Same}
use Rattle.plan.proofs.Kept.{holds_drops, holds_closes}
use Rattle.plan.proofs.Instance.{problem_of}
use Rattle.plan.proofs.Bests.{Stands, BestsOf, useless_blocked, blocked_useless, bests_closed}
use Rattle.plan.proofs.Entries.{in_cons, rising_all, put_old, put_new, in_put, every_child}
use Rattle.plan.proofs.Steps.{bests_then, kids as kids_of, each_kid, each_more}

least_in : (a f : Entry) (es : List Entry) → Least a es → In f es → before f a ≡ false
least_in a f [] h in_f = absurd (nowhere f in_f)
least_in a f (g ∷ es) h in_f = elim (in_cons g f es in_f) [ inl same ↦ subst (λ (b : Entry). before b a ≡ false) (sym same) h.0 | inr rest ↦ least_in a f es h.1 rest ]

module _ (task : Task) (fair : Fair task) where
  -- totals that are values, at a place that there is
  pub record Valid (r : Record) : Type 0 where
    pub lead : task.building.leading.is_value r.leading ≡ true
    pub second : task.building.second.is_value r.second ≡ true
    pub place : r.place < task.building.places

  pub child_valid : (r : Record) → Valid r → (parent k : ℕ) → k < length task.building.passages → Valid (child_along task parent r k)
  child_valid r v parent k inside = record {
    lead = fair.leading_laws.closed r.leading (passage task.building k).leading v.lead (fair.leading_fits k inside).value;
    second = fair.second_laws.closed r.second (passage task.building k).second v.second (fair.second_fits k inside).value;
    place = fair.to_place k inside;
  }

  abbrev pub node_of : (r : Record) → Valid r → Node (problem_of task fair)
  node_of r v = record { place = r.place; lead = (r.leading, v.lead); second = (r.second, v.second) }

  stands_itself : (r : Record) (v : Valid r) → Stands task fair r (node_of r v)
  stands_itself r v = record { place = refl; lead = refl; second = refl }

  -- the nodes whose entries wait
  pub record Open (s : State) (n : Node (problem_of task fair)) : Type 0 where
    pub entry : Entry
    pub waits_there : In entry s.waiting
    pub is : Stands task fair (record_at s entry.record) n

  pub record Entered (s : State) (e : Entry) : Type 0 where
    pub stored : e.record < length s.records
    pub estimates : e ≡ entry_for task e.record (record_at s e.record)

  pub record Tied (s : State) (closed : List (Node (problem_of task fair))) : Type 0 where
    pub holds : Holds (problem_of task fair) (Open s) closed
    pub rising : Rising s.waiting
    pub entered : (e : Entry) → In e s.waiting → Entered s e
    pub valid : (n : ℕ) → n < length s.records → Valid (record_at s n)
    pub table : BestsOf task fair s.bests closed

  -- entries are ordered as the estimates of their nodes
  lead_is : (s : State) (e : Entry) (n : Node (problem_of task fair)) → Entered s e → Stands task fair (record_at s e.record) n → e.leading ≡ lead_estimate_at (problem_of task fair) n
  lead_is s e n entered is = ap (λ (f : Entry). f.leading) entered.estimates ∙ (λ i. task.building.leading.joined (is.lead i) (get_or task.leading (is.place i) 0))

  second_is : (s : State) (e : Entry) (n : Node (problem_of task fair)) → Entered s e → Stands task fair (record_at s e.record) n → e.second ≡ second_estimate_at (problem_of task fair) n
  second_is s e n entered is = ap (λ (f : Entry). f.second) entered.estimates ∙ (λ i. task.building.second.joined (is.second i) (get_or task.second (is.place i) 0))

  same_node : (r : Record) (n m : Node (problem_of task fair)) → Stands task fair r n → Stands task fair r m → Same (problem_of task fair) n m
  same_node r n m a b = record { place = sym a.place ∙ b.place; lead = sym a.lead ∙ b.lead; second = sym a.second ∙ b.second }

  no_worse_itself : (n : Node (problem_of task fair)) → NoWorse (problem_of task fair) n n
  no_worse_itself n = record { place = refl; lead = omega arith; second = omega arith }

  -- the least entry is looked at
  module _ (s : State) (closed : List (Node (problem_of task fair))) (tied : Tied s closed) (e : Entry) (es : List Entry) (least_first : s.waiting ≡ e ∷ es) where
    pub is_in : (f : Entry) → In f (e ∷ es) → In f s.waiting
    is_in f h = subst (λ (l : List Entry). In f l) (sym least_first) h

    split : (f : Entry) → In f s.waiting → (f ≡ e) ⊎ In f es
    split f h = in_cons e f es (subst (λ (l : List Entry). In f l) least_first h)

    rise : Rising (e ∷ es)
    rise = subst Rising least_first tied.rising

    abbrev pub r : Record
    r = record_at s e.record

    pub r_valid : Valid r
    r_valid = tied.valid e.record (tied.entered e (is_in e top)).stored

    abbrev pub x : Node (problem_of task fair)
    x = node_of r r_valid

    x_open : Open s x
    x_open = record { entry = e; waits_there = is_in e top; is = stands_itself r r_valid }

    x_least : (z : Node (problem_of task fair)) → Open s z → NoLater (problem_of task fair) x z
    x_least z open-z =
        let f = open-z.entry in
        let e_lead = lead_is s e x (tied.entered e (is_in e top)) (stands_itself r r_valid) in
        let e_second = second_is s e x (tied.entered e (is_in e top)) (stands_itself r r_valid) in
        let f_lead = lead_is s f z (tied.entered f open-z.waits_there) open-z.is in
        let f_second = second_is s f z (tied.entered f open-z.waits_there) open-z.is in
        let order : before f e ≡ false =
        elim (split f open-z.waits_there) [
          | inl same ↦ subst (λ (b : Entry). before b e ≡ false) (sym same) (never_itself e)
          | inr rest ↦ least_in e f es rise.0 rest
        ] in
        elim (not_before e f order) [
          | inl less ↦ inl (omega arith)
          | inr level ↦ inr (omega (arith, level.0), omega (arith, level.1))
        ]

    pub tied_drop : useless task s.bests r ≡ true → Tied (after_drop s es).next closed
    tied_drop no_use = record {
      holds = holds_drops (problem_of task fair) tied.holds (record {
        fewer = λ n o. record { entry = o.entry; waits_there = is_in o.entry (below o.waits_there); is = o.is };
        left = λ n o.
            elim (split o.entry o.waits_there) [
              | inl same ↦ blocked (useless_blocked task fair tied.table r n (subst (λ (f : Entry). Stands task fair (record_at s f.record) n) same o.is) no_use)
              | inr rest ↦ waits n (record { entry = o.entry; waits_there = rest; is = o.is }) (no_worse_itself n)
            ];
      });
      rising = rise.1;
      entered = λ f in_f. let was = tied.entered f (is_in f (below in_f)) in record { stored = was.stored; estimates = was.estimates };
      valid = tied.valid;
      table = tied.table;
    }

    -- the node is closed
    module _ (of_use : useless task s.bests r ≡ false) where
      x_unblocked : Blocked (problem_of task fair) closed x → ⊥
      x_unblocked h = both_ways _ of_use (blocked_useless task fair tied.table r x (stands_itself r r_valid) h)

      table_now : BestsOf task fair (bests_then s e) (x ∷ closed)
      table_now = bests_closed task fair tied.table r x (stands_itself r r_valid) r_valid.place of_use

      pub tied_show : r.place ≡ task.goal → Tied (after_show s es e.record r).next (x ∷ closed)
      tied_show at_goal = record {
        holds = holds_closes (problem_of task fair) tied.holds x (record {
          was = x_open;
          least = x_least;
          unblocked = x_unblocked;
          only = λ n o. inl (record { entry = o.entry; waits_there = is_in o.entry (below o.waits_there); is = o.is });
          left = λ n o.
              elim (split o.entry o.waits_there) [
                | inl same ↦ inl (same_node r n x (subst (λ (f : Entry). Stands task fair (record_at s f.record) n) same o.is) (stands_itself r r_valid))
                | inr rest ↦ inr (waits n (record { entry = o.entry; waits_there = rest; is = o.is }) (no_worse_itself n))
              ];
          children = λ not_end. absurd (not_end at_goal);
        });
        rising = rise.1;
        entered = λ f in_f. let was = tied.entered f (is_in f (below in_f)) in record { stored = was.stored; estimates = was.estimates };
        valid = tied.valid;
        table = table_now;
      }

      abbrev pub kids : List Record
      kids = kids_of task s e

      abbrev pub next : State
      next = (after_open task s es r kids).next

      old_record : (k : ℕ) → k < length s.records → record_at next k ≡ record_at s k
      old_record k inside = get_or_append_left s.records kids no_record k inside

      new_record : (i : ℕ) → record_at next (length s.records + i) ≡ get_or kids i no_record
      new_record i = get_or-append-add s.records kids i no_record

      kid_valid : (i : ℕ) → i < length kids → Valid (get_or kids i no_record)
      kid_valid i h = let found = each_kid task s e i h in subst Valid (sym found.is) (child_valid r r_valid e.record found.by found.inside)

      -- an entry that waits afterwards waited before, or is a child's
      entered_next : (f : Entry) → In f next.waiting → Entered next f
      entered_next f in_f =
          elim (in_put task (length s.records) kids es f in_f) [
            | inl old ↦
                let was = tied.entered f (is_in f (below old)) in
                record {
                  stored = omega (arith, was.stored, length-append s.records kids);
                  estimates = was.estimates ∙ ap (λ (q : Record). entry_for task f.record q) (sym (old_record f.record was.stored));
                }
            | inr new ↦
                let number : f.record ≡ length s.records + new.0 = ap (λ (g : Entry). g.record) new.2 in
                record {
                  stored = omega (arith, new.1, number, length-append s.records kids);
                  estimates = new.2 ∙ ap (λ (k : ℕ). entry_for task k (get_or kids new.0 no_record)) (sym number) ∙ ap (λ (q : Record). entry_for task f.record q) (sym (ap (record_at next) number ∙ new_record new.0));
                }
          ]

      -- the child by a passage, as a node
      child_stands : (k : ℕ) (inside : k < length task.building.passages) → Stands task fair (child_along task e.record r k) (child (problem_of task fair) x (k, inside))
      child_stands k inside = record { place = refl; lead = refl; second = refl }

      only_next : (n : Node (problem_of task fair)) → Open next n → Open s n ⊎ ((d : (k : ℕ) × (k < length task.building.passages)) × ((passage task.building d.0).from ≡ x.place) × Same (problem_of task fair) n (child (problem_of task fair) x d))
      only_next n o =
          elim (in_put task (length s.records) kids es o.entry o.waits_there) [
            | inl old ↦
                let was = tied.entered o.entry (is_in o.entry (below old)) in
                inl (record { entry = o.entry; waits_there = is_in o.entry (below old); is = subst (λ (q : Record). Stands task fair q n) (old_record o.entry.record was.stored) o.is })
            | inr new ↦
                let number : o.entry.record ≡ length s.records + new.0 = ap (λ (g : Entry). g.record) new.2 in
                let found = each_kid task s e new.0 new.1 in
                let is_child = ap (record_at next) number ∙ new_record new.0 ∙ found.is in
                inr ((found.by, found.inside), found.leaves, same_node _ n _ (subst (λ (q : Record). Stands task fair q n) is_child o.is) (child_stands found.by found.inside))
          ]

      still_open : (n : Node (problem_of task fair)) (f : Entry) → In f es → Stands task fair (record_at s f.record) n → Open next n
      still_open n f in_f is = record {
        entry = f;
        waits_there = put_old task (length s.records) kids es f in_f;
        is = subst (λ (q : Record). Stands task fair q n) (sym (old_record f.record (tied.entered f (is_in f (below in_f))).stored)) is;
      }

      children_next : (k : ℕ) (inside : k < length task.building.passages) → (passage task.building k).from ≡ x.place → Answered (problem_of task fair) (Open next) (x ∷ closed) (child (problem_of task fair) x (k, inside))
      children_next k inside leaves =
          elim (cases_Bool (useless task (bests_then s e) (child_along task e.record r k))) [
            | inl no_use ↦ blocked (useless_blocked task fair table_now (child_along task e.record r k) _ (child_stands k inside) no_use)
            | inr useful ↦
                let same : k ≡ 0 + k = omega arith in
                let there = every_child task (bests_then s e) e.record r 0 task.building.passages k inside leaves
                (subst (λ (m : ℕ). useless task (bests_then s e) (child_along task e.record r m) ≡ false) same useful) in
                let is_child : record_at next (length s.records + there.at) ≡ child_along task e.record r k =
                new_record there.at ∙ there.is ∙ ap (child_along task e.record r) (sym same) in
                waits (child (problem_of task fair) x (k, inside)) (record {
                  entry = entry_for task (length s.records + there.at) (get_or kids there.at no_record);
                  waits_there = put_new task (length s.records) kids es there.at there.inside;
                  is = subst (λ (q : Record). Stands task fair q (child (problem_of task fair) x (k, inside))) (sym is_child) (child_stands k inside);
                }) (no_worse_itself _)
          ]

      pub tied_open : Tied next (x ∷ closed)
      tied_open = record {
        holds = holds_closes (problem_of task fair) tied.holds x (record {
          was = x_open;
          least = x_least;
          unblocked = x_unblocked;
          only = only_next;
          left = λ n o.
              elim (split o.entry o.waits_there) [
                | inl same ↦ inl (same_node r n x (subst (λ (f : Entry). Stands task fair (record_at s f.record) n) same o.is) (stands_itself r r_valid))
                | inr rest ↦ inr (waits n (still_open n o.entry rest o.is) (no_worse_itself n))
              ];
          children = λ not_end d leaves. children_next d.0 d.1 leaves;
        });
        rising = rising_all task (length s.records) kids es rise.1;
        entered = entered_next;
        valid = each_more Valid s.records kids tied.valid kid_valid;
        table = table_now;
      }
