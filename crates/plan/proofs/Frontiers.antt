-- The choices shown and the frontier over ways. Assumes nothing.
use Rattle.std.proofs.Common.{◌≡◌, ℕ, ◌<◌, ◌≤◌, ◌⊎◌, List, [], ◌∷◌, get_or, sym, refl, ap, ◌∙◌, subst, inl, inr, arith}
use Rattle.std.proofs.lemmas.Bool.{cases_lt}
use Rattle.plan.specs.Ways.{Pair, passage, totals, Leads, NoGreater, Beats, OnFrontier, FirstOnes, Among, After}
use Rattle.plan.specs.Rules.{Task, State, pairs_in, choice_pair, choice_pairs, after}
use Rattle.plan.specs.Legs.{choice_legs, WayWith}
use Rattle.plan.specs.Promise.{NoWay, Finished, SearchTheorem, FrontierTheorem}
use Rattle.plan.specs.Openings.{Fair}
use Rattle.plan.proofs.Measures.{Way, size, sum}
use Rattle.plan.proofs.Search.{In, nowhere}
use Rattle.plan.proofs.Promises.{arrives, Unbeaten, unbeaten, first_ones, complete}
use Rattle.plan.proofs.Instance.{problem_of, graph_of}
use Rattle.plan.proofs.Bridge.{way_of, list_of, leads_of, sum_list, sum_way}
use Rattle.plan.proofs.Chosen.{pair_at, shown_of, shown_choice, choice_shown, rising_shown}
use Rattle.plan.proofs.Climbs.{climbs}
use Rattle.plan.proofs.Counted.{counted_after}
use Rattle.plan.proofs.Parents.{bred_after}
use Rattle.plan.proofs.Runs.{Goes, goes_after}

module _ (task : Task) (fair : Fair task) where
  abbrev lead_sum : Way (graph_of task.building) task.start task.goal → ℕ
  lead_sum w = size (problem_of task fair).lead (sum (problem_of task fair).lead (problem_of task fair).lead.algebra.none w)

  abbrev second_sum : Way (graph_of task.building) task.start task.goal → ℕ
  second_sum w = size (problem_of task fair).second (sum (problem_of task fair).second (problem_of task fair).second.algebra.none w)

  list_lead : (w : Way (graph_of task.building) task.start task.goal) → lead_sum w ≡ (totals task.building (list_of task.building w)).lead
  list_lead w = sum_list task.building task.building.leading fair.leading_laws task.goal (λ n. (passage task.building n).leading) task.leading (λ n h. (fair.leading_fits n h).value) fair.leading_long fair.leading_fair (0, fair.leading_laws.zero_value) w

  list_second : (w : Way (graph_of task.building) task.start task.goal) → second_sum w ≡ (totals task.building (list_of task.building w)).second
  list_second w = sum_list task.building task.building.second fair.second_laws task.goal (λ n. (passage task.building n).second) task.second (λ n h. (fair.second_fits n h).value) fair.second_long fair.second_fair (0, fair.second_laws.zero_value) w

  way_lead : (w : List ℕ) (h : Leads task.building task.start task.goal w) → lead_sum (way_of task.building w task.start task.goal h) ≡ (totals task.building w).lead
  way_lead w h = sum_way task.building task.building.leading fair.leading_laws task.goal (λ n. (passage task.building n).leading) task.leading (λ n l. (fair.leading_fits n l).value) fair.leading_long fair.leading_fair w task.start task.goal (0, fair.leading_laws.zero_value) h

  way_second : (w : List ℕ) (h : Leads task.building task.start task.goal w) → second_sum (way_of task.building w task.start task.goal h) ≡ (totals task.building w).second
  way_second w h = sum_way task.building task.building.second fair.second_laws task.goal (λ n. (passage task.building n).second) task.second (λ n l. (fair.second_fits n l).value) fair.second_long fair.second_fair w task.start task.goal (0, fair.second_laws.zero_value) h

  pair_is : (x y : Pair) → x.lead ≡ y.lead → x.second ≡ y.second → x ≡ y
  pair_is x y a b = λ i. record { lead = a i; second = b i }

  module _ (s : State) (g : Goes task fair s) where
    -- a choice shown is a pair of the frontier
    shown_on : (x : Pair) → Among x (shown_of task fair g.closed) → OnFrontier task.building task.start task.goal x
    shown_on x h =
        let z = shown_choice task fair g.closed x h in
        let r = arrives (problem_of task fair) z.0 (g.tied.holds.real_closed z.0 z.1.shown) task.goal z.1.there in
        let lead_is : z.0.lead.0 ≡ x.lead = ap (λ (p : Pair). p.lead) z.2 in
        let second_is : z.0.second.0 ≡ x.second = ap (λ (p : Pair). p.second) z.2 in
        record {
          way = list_of task.building r.0;
          leads = leads_of task.building r.0;
          costs = pair_is _ x (sym (list_lead r.0) ∙ r.1 ∙ lead_is) (sym (list_second r.0) ∙ r.2 ∙ second_is);
          unbeaten = λ w leads beats.
              let a = way_lead w leads in
              let b = way_second w leads in
              let same = unbeaten (problem_of task fair) g.tied.holds task.goal refl z.0 z.1 (way_of task.building w task.start task.goal leads) (omega (arith, beats.0.0, a, lead_is)) (omega (arith, beats.0.1, b, second_is)) in
              elim beats.1 [ inl less ↦ omega (arith, same.0, a, lead_is) | inr less ↦ omega (arith, same.1, b, second_is) ];
        }

    best : (x : Pair) → OnFrontier task.building task.start task.goal x → (w : Way (graph_of task.building) task.start task.goal) → lead_sum w ≡ x.lead → second_sum w ≡ x.second → Unbeaten (problem_of task fair) task.goal (lead_sum w) (second_sum w)
    best x on w lead_is second_is v lead second =
        let a = list_lead v in
        let b = list_second v in
        let no_less : (lead_sum v < lead_sum w) ⊎ (second_sum v < second_sum w) → ⊥ = λ less.
        on.unbeaten (list_of task.building v) (leads_of task.building v) ((omega arith, omega arith), elim less [ inl l ↦ inl (omega arith) | inr l ↦ inr (omega arith) ]) in (
          elim (cases_lt (lead_sum v) (lead_sum w)) [ inl less ↦ absurd (no_less (inl less)) | inr ok ↦ omega arith ],
          elim (cases_lt (second_sum v) (second_sum w)) [ inl less ↦ absurd (no_less (inr less)) | inr ok ↦ omega arith ],
        )

    first_of : (x : Pair) → OnFrontier task.building task.start task.goal x → Among x (shown_of task fair g.closed) ⊎ After (shown_of task fair g.closed) x
    first_of x on =
        let w = way_of task.building on.way task.start task.goal on.leads in
        let lead_is : lead_sum w ≡ x.lead = way_lead on.way on.leads ∙ ap (λ (p : Pair). p.lead) on.costs in
        let second_is : second_sum w ≡ x.second = way_second on.way on.leads ∙ ap (λ (p : Pair). p.second) on.costs in
        elim (first_ones (problem_of task fair) g.tied.holds task.goal refl w (best x on w lead_is second_is)) [
          | inl z ↦
              inl (subst (λ (p : Pair). Among p (shown_of task fair g.closed)) (pair_is (pair_at task fair z.0) x (z.2 ∙ lead_is) (z.3 ∙ second_is))
              (choice_shown task fair g.closed z.0 z.1.shown z.1.there))
          | inr less ↦
              inr (λ y in_y.
              let z = shown_choice task fair g.closed y in_y in
              omega (arith, less z.0 z.1, lead_is, ap (λ (p : Pair). p.lead) z.2))
        ]

    pub shows_first_ones : FirstOnes task.building task.start task.goal (choice_pairs s)
    shows_first_ones = subst (FirstOnes task.building task.start task.goal) (sym g.chosen.pairs) (record {
      rising = rising_shown task fair g.closed g.tied.holds.ordered;
      each = shown_on;
      first = first_of;
    })

    -- once nothing waits, every way costs at least as much, in both totals, as some choice shown
    pub shows_all : s.waiting ≡ [] → (w : List ℕ) → Leads task.building task.start task.goal w → (x : Pair) × Among x (choice_pairs s) × NoGreater x (totals task.building w)
    shows_all done w leads =
        let z = complete (problem_of task fair) g.tied.holds task.goal refl (λ n o. nowhere o.entry (subst (λ l. In o.entry l) done o.waits_there)) (way_of task.building w task.start task.goal leads) in (
          pair_at task fair z.0,
          subst (Among (pair_at task fair z.0)) (sym g.chosen.pairs) (choice_shown task fair g.closed z.0 z.1.shown z.1.there),
          (omega (arith, z.2, way_lead w leads), omega (arith, z.3, way_second w leads)),
        )

    -- a pair of the frontier is among the choices, as no choice can beat it
    whole_shown : s.waiting ≡ [] → (x : Pair) → OnFrontier task.building task.start task.goal x → Among x (choice_pairs s)
    whole_shown done x on =
        let z = shows_all done on.way on.leads in
        let lead_less : z.0.lead ≤ x.lead = omega (arith, z.2.0, ap (λ (p : Pair). p.lead) on.costs) in
        let second_less : z.0.second ≤ x.second = omega (arith, z.2.1, ap (λ (p : Pair). p.second) on.costs) in
        let shown = shows_first_ones.each z.0 z.1 in
        let no_less : (z.0.lead < x.lead) ⊎ (z.0.second < x.second) → ⊥ = λ less.
        on.unbeaten shown.way shown.leads (subst (λ (p : Pair). Beats p x) (sym shown.costs) ((lead_less, second_less), less)) in
        let lead_is : z.0.lead ≡ x.lead = elim (cases_lt z.0.lead x.lead) [ inl less ↦ absurd (no_less (inl less)) | inr ok ↦ omega arith ] in
        let second_is : z.0.second ≡ x.second = elim (cases_lt z.0.second x.second) [ inl less ↦ absurd (no_less (inr less)) | inr ok ↦ omega arith ] in
        subst (λ (p : Pair). Among p (choice_pairs s)) (pair_is z.0 x lead_is second_is) z.1

    none_shown : (ns : List ℕ) → NoWay task.building task.start task.goal → ((x : Pair) → Among x (pairs_in s.records ns) → OnFrontier task.building task.start task.goal x) → ns ≡ []
    none_shown [] none each = refl
    none_shown (n ∷ ns) none each = let first = each _ (inl refl) in absurd (none first.way first.leads)

    pub finishes : s.waiting ≡ [] → Finished task s
    finishes done = record {
      dominated = shows_all done;
      frontier = record { first_ones = shows_first_ones; whole = whole_shown done };
      none = (
        λ no_choice w leads. let z = shows_all done w leads in subst (λ (ns : List ℕ). Among z.0 (pairs_in s.records ns)) no_choice z.1,
        λ no_way. none_shown s.choices no_way shows_first_ones.each,
      );
    }

pub search_theorem_lem : SearchTheorem
search_theorem_lem task fair n = record {
  shown = shows_first_ones task fair (after task n) (goes_after task fair n);
  complete = shows_all task fair (after task n) (goes_after task fair n);
  legs = λ i inside.
      let bred = bred_after task fair n in
      let choice = bred.at_goal i inside in
      subst (λ (t : ℕ). WayWith task.building task.start t (choice_pair (after task n) i) (choice_legs (after task n) i))
      choice.there (climbs task (after task n).records bred.born (get_or (after task n).choices i 0) (get_or (after task n).choices i 0) (omega arith) choice.stored);
  counts = (counted_after task fair n).counts;
  room = (counted_after task fair n).room;
}

pub frontier_theorem_lem : FrontierTheorem
frontier_theorem_lem task fair n = finishes task fair (after task n) (goes_after task fair n)
