-- After every number of steps the choices are the first ones of the frontier. Assumes nothing.
use Rattle.std.proofs.Common.{◌≡◌, ℕ, ◌<◌, List, [], ◌∷◌, ◌++◌, length, replicate, None, Option, sym, refl, ap, ◌∙◌, subst, inl, inr, arith, length-append}
use lib.ListN.{length-replicate}
use Rattle.std.proofs.lemmas.List.{get_or-replicate, get_or_past}
use Rattle.std.proofs.lemmas.Bool.{cases_lt, eqb-true, both_ways, cond-true, cond-false}
use Rattle.costs.specs.declared.entry.Entry.{Entry}
use Rattle.plan.specs.Ways.{Pair}
use Rattle.plan.specs.Rules.{Task, State, begun, first_record, entry_for, record_at, at_most, best_at, pair_of, after}
use Rattle.plan.specs.Openings.{Fair}
use Rattle.plan.proofs.Measures.{here}
use Rattle.plan.proofs.Search.{In, top, below, nowhere, Node, by_open, empty}
use Rattle.plan.proofs.Instance.{problem_of}
use Rattle.plan.proofs.Bests.{Stands}
use Rattle.plan.proofs.Steps.{seen, kids, only_first, Cases, always}
use Rattle.plan.proofs.Tied.{Valid, node_of, Entered, Tied, tied_drop, tied_show, tied_open, is_in}
use Rattle.plan.proofs.Chosen.{below_more, below_push, pairs_more, pairs_push, Chosen}

in_one : (e f : Entry) → In f (e ∷ []) → f ≡ e
in_one e f top = refl
in_one e f (below h) = absurd (nowhere f h)

module _ (task : Task) (fair : Fair task) where
  first_valid : Valid task fair (first_record task)
  first_valid = record { lead = fair.leading_laws.zero_value; second = fair.second_laws.zero_value; place = fair.start_place }

  none_yet : (p : ℕ) → best_at (begun task).bests p ≡ None
  none_yet p =
      elim (cases_lt p task.building.places) [
        | inl inside ↦ get_or-replicate task.building.places p None None inside
        | inr outside ↦ get_or_past (replicate task.building.places None) p None (omega (arith, length-replicate {A = Option ℕ} task.building.places None))
      ]

  tied_begun : Tied task fair (begun task) []
  tied_begun = record {
    holds = record {
      real_open = λ n o.
          let is = subst (λ (f : Entry). Stands task fair (record_at (begun task) f.record) n) (in_one _ _ o.waits_there) o.is in
          record { way = here is.place; lead = is.lead; second = is.second };
      real_closed = λ n h. absurd (nowhere n h);
      closed_first = λ y x h o. absurd (nowhere y h);
      ordered = empty;
      begun = by_open (node_of task fair (first_record task) first_valid) (record { entry = entry_for task 0 (first_record task); waits_there = top; is = record { place = refl; lead = refl; second = refl } })
          (record { place = refl; lead = omega arith; second = omega arith });
      opened = λ x h. absurd (nowhere x h);
    };
    rising = (tt, tt);
    entered = λ e h. subst (Entered task fair (begun task)) (sym (in_one _ _ h)) (record { stored = omega arith; estimates = refl });
    valid = only_first (λ n. Valid task fair (record_at (begun task) n)) first_valid;
    table = record {
      long = length-replicate task.building.places None;
      low = λ y h. absurd (nowhere y h);
      met = λ p g e. absurd (both_ways (at_most (best_at (begun task).bests p) g) (ap (λ (o : Option ℕ). at_most o g) (none_yet p)) e);
    };
  }

  -- what holds after every step
  pub record Goes (s : State) : Type 0 where
    pub closed : List (Node (problem_of task fair))
    pub tied : Tied task fair s closed
    pub chosen : Chosen task fair s closed

  module _ (s : State) (g : Goes s) (e : Entry) (es : List Entry) (first : s.waiting ≡ e ∷ es) where
    pub stored_now : e.record < length s.records
    stored_now = (g.tied.entered e (is_in task fair s g.closed g.tied e es first e top)).stored

    goes_cases : Cases task Goes s e es
    goes_cases = record {
      dropped = λ no_use. record { closed = g.closed; tied = tied_drop task fair s g.closed g.tied e es first no_use; chosen = record { stored = g.chosen.stored; pairs = g.chosen.pairs } };
      shown = λ of_use at_goal. record {
        closed = _ ∷ g.closed;
        tied = tied_show task fair s g.closed g.tied e es first of_use (eqb-true _ _ at_goal);
        chosen = record {
          stored = below_push _ _ _ g.chosen.stored stored_now;
          pairs = pairs_push s.records e.record s.choices ∙ ap (λ (l : List Pair). l ++ pair_of (seen s e) ∷ []) g.chosen.pairs ∙ sym (cond-true _ _ _ at_goal);
        };
      };
      opened = λ of_use elsewhere enough. record {
        closed = _ ∷ g.closed;
        tied = tied_open task fair s g.closed g.tied e es first of_use;
        chosen = record {
          stored = below_more (length s.records) _ s.choices (omega (arith, length-append s.records (kids task s e))) g.chosen.stored;
          pairs = pairs_more s.records _ s.choices g.chosen.stored ∙ g.chosen.pairs ∙ sym (cond-false _ _ _ elsewhere);
        };
      };
    }

  pub goes_after : (n : ℕ) → Goes (after task n)
  goes_after = always task Goes (record { closed = []; tied = tied_begun; chosen = record { stored = tt; pairs = refl } }) (λ n. goes_cases (after task n))
