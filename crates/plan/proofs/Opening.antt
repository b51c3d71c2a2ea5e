-- Opening: the questions about a request, one part after another, and the search that is begun. Assumes nothing.
use Rattle.std.proofs.Common.{◌≡◌, ℕ, suc, ◌<◌, List, [], ◌∷◌, ◌++◌, length, map, get_or, replicate, None, Ok, Err, Option, sym, refl, ap, ◌∙◌, subst, subst₂, arith}
use lib.ListN.{length-replicate}
use Rattle.std.proofs.lemmas.List.{get_or-replicate, length-map, ext_get_or}
use Rattle.std.proofs.lemmas.Bool.{cond-false, and_parts, ltb-true, eqb-true, ne_eqb}
use Rattle.costs.specs.declared.entry.Entry.{Entry}
use Rattle.costs.specs.Bag.{inserted, put_bag}
use Rattle.costs.specs.Kinds.{Kind, Lawful}
use Rattle.costs.specs.Order.{entry_of}
use Rattle.costs.proofs.Joins.{joins_there}
use Rattle.survey.specs.declared.passage.Passage.{Passage}
use Rattle.survey.specs.declared.refusal.Refusal.{Refusal}
use Rattle.survey.specs.Questions.{Question, each, decided}
use Rattle.survey.proofs.Asked.{Yes, none_yes, passed}
use Rattle.plan.specs.declared.book.Book.{Book}
use Rattle.plan.specs.declared.place.Place.{Place}
use Rattle.plan.specs.declared.request.Request.{Request}
use Rattle.plan.specs.declared.state.Ends.{Ends}
use Rattle.plan.specs.declared.state.Phase.TheVariants.{Opened}
use Rattle.plan.specs.declared.table.Link.{Link}
use Rattle.plan.specs.declared.table.Table.{Table}
use Rattle.plan.specs.Ways.{Building, no_passage, passage}
use Rattle.plan.specs.Rules.{Task, entry_for, first_record, begun}
use Rattle.plan.specs.Joins.{Joined}
use Rattle.plan.specs.Openings.{end_questions, forecast_questions, goal_questions, leading_questions, consistent_questions, agree_questions, list_questions, task_questions, lead_forecast, second_forecast, Passed, Fits, FairBuilding, Fair}
use Rattle.plan.specs.Views.{opened, no_link, place_at, link_at, each_place, passages_in, building_in, task_in, state_in, FirstFrom, Indexed, Reached, Roomy, Searching}
use Rattle.plan.specs.Requests.{requested, Listed, Comparable, prepared_place, Prepared, begun_book}
use Rattle.plan.proofs.Fairness.{each_passed, fits_is, asked_fair}
use Rattle.plan.proofs.Tables.{each_at, many_passages, link_is}
use Rattle.plan.proofs.Rows.{first_decides, rest_decides}

-- a value within the ceiling for passages joins with one within the ceiling for forecasts
forecast_joins : (k : Kind) (v f : ℕ) → Lawful k → Fits k v k.passage_ceiling → Fits k f k.forecast_ceiling → Joined k v f
forecast_joins k v f laws a b = joins_there k v f a.value b.value (omega (arith, a.within, b.within, laws.passage_limit, laws.forecast_limit))

-- what question 15 makes sure of
forecasts_fitting : (task : Task) → Passed (each task.building.places (forecast_questions task)) → (s : ℕ) → s < task.building.places →
    Fits task.building.leading (lead_forecast task s) task.building.leading.forecast_ceiling × Fits task.building.second (second_forecast task s) task.building.second.forecast_ceiling
forecasts_fitting task fit s inside =
    let both = and_parts _ _ (none_yes (forecast_questions task s) (each_passed task.building.places s (forecast_questions task) fit inside)).0 in
    (fits_is _ _ _ both.0, fits_is _ _ _ both.1)

comparable : (k : Kind) (forecasts : List ℕ) (p : Passage) (value places : ℕ) → Lawful k → length forecasts ≡ places → ((s : ℕ) → s < places → Fits k (get_or forecasts s 0) k.forecast_ceiling) →
    p.from < places → p.to < places → Fits k value k.passage_ceiling → Comparable k forecasts p value
comparable k forecasts p value places laws long fit from to fine = record {
  from = omega arith;
  to = omega arith;
  joins = forecast_joins k value (get_or forecasts p.to 0) laws fine (fit p.to to);
}

-- question 18 about the passage with the number n of a table
pub both_comparable : (k m : Kind) (t : Table) (q : Request) (n : ℕ) → FairBuilding (building_in k m t) → n < length t.passages.items → Listed t q →
    Passed (each (length t.places.items) (forecast_questions (requested q (building_in k m t)))) →
    Comparable k q.leading.now (link_at t n).passage (link_at t n).passage.leading × Comparable m q.second.now (link_at t n).passage (link_at t n).passage.second
both_comparable k m t q n building inside listed fit =
    let fits = forecasts_fitting (requested q (building_in k m t)) fit in
    let p = passage (building_in k m t) n in
    let there : n < length (building_in k m t).passages = omega (arith, many_passages t) in
    subst (λ (x : Passage). Comparable k q.leading.now x x.leading × Comparable m q.second.now x x.second) (link_is t n inside) (
      comparable k q.leading.now p p.leading _ building.leading_laws listed.leading (λ s within. (fits s within).0) (building.from_place n there) (building.to_place n there) (building.leading_fits n there),
      comparable m q.second.now p p.second _ building.second_laws listed.second (λ s within. (fits s within).1) (building.from_place n there) (building.to_place n there) (building.second_fits n there),
    )

-- the questions about a request, part by part: each part decides, where those before it passed
module _ (k m : Kind) (t : Table) (q : Request) where
  abbrev task : Task
  task = requested q (building_in k m t)

  abbrev fitting : List Question
  fitting = each (length t.places.items) (forecast_questions task)

  abbrev leading : List Question
  leading = each (length t.places.items) (leading_questions task)

  abbrev agreeing : List Question
  agreeing = each (length (passages_in t)) (consistent_questions task)

  pub ends_decide : (r : Refusal) → ((k m : Kind) → Err r ≡ decided (end_questions (requested q (building_in k m t))) (tt {0})) → Err r ≡ decided (task_questions task) (tt {0})
  ends_decide r e = first_decides (end_questions task) (list_questions task) tt r (e k m)

  module _ (ends : (k m : Kind) → Ok tt ≡ decided (end_questions (requested q (building_in k m t))) (tt {0})) where
    yes : Yes (end_questions task)
    yes = none_yes (end_questions task) (passed _ tt tt (ends k m)).0

    pub all_listed : Listed t q
    all_listed = let long = and_parts _ _ yes.1.1.0 in record { leading = eqb-true _ _ long.0; second = eqb-true _ _ long.1 }

    pub goal_there : q.ends.goal < length t.places.items
    goal_there = ltb-true _ _ (and_parts _ _ yes.0).1

    past_ends : decided (task_questions task) (tt {0}) ≡ decided (list_questions task) tt
    past_ends = rest_decides (end_questions task) (list_questions task) tt (ends k m)

    pub forecasts_decide : (r : Refusal) → Err r ≡ decided fitting (tt {0}) → Err r ≡ decided (task_questions task) (tt {0})
    forecasts_decide r e = first_decides fitting (goal_questions task ++ agree_questions task) tt r e ∙ sym past_ends

    module _ (fit : Ok tt ≡ decided fitting (tt {0})) where
      past_fitting : decided (task_questions task) (tt {0}) ≡ decided (goal_questions task ++ agree_questions task) tt
      past_fitting = past_ends ∙ rest_decides fitting (goal_questions task ++ agree_questions task) tt fit

      pub goal_decides : (r : Refusal) → ((b : Building) → Err r ≡ decided (goal_questions (requested q b)) (tt {0})) → Err r ≡ decided (task_questions task) (tt {0})
      goal_decides r e = first_decides (goal_questions task) (agree_questions task) tt r (e task.building) ∙ sym past_fitting

      module _ (at_goal : (b : Building) → Ok tt ≡ decided (goal_questions (requested q b)) (tt {0})) where
        past_goal : decided (task_questions task) (tt {0}) ≡ decided (agree_questions task) tt
        past_goal = past_fitting ∙ rest_decides (goal_questions task) (agree_questions task) tt (at_goal task.building)

        pub leading_decides : (r : Refusal) → Err r ≡ decided leading (tt {0}) → Err r ≡ decided (task_questions task) (tt {0})
        leading_decides r e = first_decides leading agreeing tt r e ∙ sym past_goal

        pub agreeing_decides : Ok tt ≡ decided leading (tt {0}) → decided (each (length t.passages.items) (consistent_questions task)) (tt {0}) ≡ decided (task_questions task) tt
        agreeing_decides e = ap (λ (n : ℕ). decided (each n (consistent_questions task)) tt) (sym (many_passages t)) ∙ sym (past_goal ∙ rest_decides leading agreeing tt e)

-- the table that the forecasts are written to
module _ (t : Table) (q : Request) (u : Table) (prepared : Prepared t q u) where
  passages_kept : passages_in u ≡ passages_in t
  passages_kept = ap (λ v. map (λ (l : Link). l.passage) v.items) prepared.passages

  building_kept : (k m : Kind) → building_in k m u ≡ building_in k m t
  building_kept k m = λ i. record { leading = k; second = m; places = prepared.places i; passages = passages_kept i }

  indexed_kept : Indexed t → Indexed u
  indexed_kept indexed = record {
    first = λ s inside.
        let there : s < length t.places.items = omega (arith, prepared.places) in
        subst (λ (ps : List Passage). FirstFrom ps s 0 (place_at u s).first) (sym passages_kept)
        (subst (λ (p : Place). FirstFrom (passages_in t) s 0 p.first) (sym (prepared.each s there)) (indexed.first s there));
    next = λ n inside.
        subst (λ v. FirstFrom (map (λ (l : Link). l.passage) v.items) (get_or (map (λ (l : Link). l.passage) v.items) n no_passage).from (suc n) (get_or v.items n no_link).next) (sym prepared.passages)
        (indexed.next n (omega (arith, ap length passages_kept)));
  }

  -- what is read off each place
  module _ {X : Type 0} (f : Place → X) (xs : List X) (d : X) (long : length xs ≡ length t.places.items) where
    many_places : length (each_place f u) ≡ length t.places.items
    many_places = length-map u.places.items f ∙ prepared.places

    pub each_place_is : ((s : ℕ) → s < length t.places.items → f (prepared_place t q s) ≡ get_or xs s d) → each_place f u ≡ xs
    each_place_is is = ext_get_or d (each_place f u) xs (many_places ∙ sym long) (λ s inside.
        let below : s < length t.places.items = omega (arith, many_places) in
        each_at f d u s (omega (arith, prepared.places)) ∙ ap f (prepared.each s below) ∙ is s below)

-- the estimates of the first record
pub first_joins : (k : Kind) (forecasts : List ℕ) (start i : ℕ) → i ≡ start → Lawful k → Fits k (get_or forecasts start 0) k.forecast_ceiling → Joined k 0 (get_or forecasts i 0)
first_joins k forecasts start i at laws fine =
    subst (λ (s : ℕ). Joined k 0 (get_or forecasts s 0)) (sym at) (forecast_joins k 0 (get_or forecasts start 0) laws (record { value = laws.zero_value; within = omega arith }) fine)

first_estimate : (k : Kind) (forecasts : List ℕ) (start i a : ℕ) → i ≡ start → a ≡ k.joined 0 (get_or forecasts i 0) → a ≡ k.joined 0 (get_or forecasts start 0)
first_estimate k forecasts start i a at is = is ∙ ap (λ (s : ℕ). k.joined 0 (get_or forecasts s 0)) at

-- an entry that is put to none
put_first : (n : ℕ) (e : Entry) (es : List Entry) → es ≡ [] → 0 < n → put_bag n e es ≡ e ∷ []
unfolding inserted
put_first n e es none some = ap (put_bag n e) none ∙ cond-false _ _ _ (ne_eqb 0 n (λ same. omega arith))

-- the table and the book after an opening
module _ (k m : Kind) (t : Table) (q : Request) (building : FairBuilding (building_in k m t)) (asked : Passed (task_questions (requested q (building_in k m t)))) where
  pub fair_asked : Fair (requested q (building_in k m t))
  fair_asked = asked_fair.opening (requested q (building_in k m t)) building asked

  -- the entry of the first record alone waits
  waits : (i a b n : ℕ) (es ws : List Entry) → i ≡ q.ends.start → a ≡ k.joined 0 (get_or q.leading.now i 0) → b ≡ m.joined 0 (get_or q.second.now i 0) → es ≡ [] → n ≡ q.slots → ws ≡ put_bag n (entry_of a b 0) es →
      ws ≡ entry_for (requested q (building_in k m t)) 0 (first_record (requested q (building_in k m t))) ∷ []
  waits i a b n es ws at lead other none same put =
      put ∙ put_first n (entry_of a b 0) es none (omega (arith, fair_asked.some_slot)) ∙
      (λ j. entry_of (first_estimate k q.leading.now q.ends.start i a at lead j) (first_estimate m q.second.now q.ends.start i b at other j) 0 ∷ [])

  module _ (u : Table) (b : Book) (prepared : Prepared t q u) (is : b ≡ begun_book q.ends.start) (slots : ℕ) (waiting : List Entry) (same : slots ≡ q.slots) (wait : waiting ≡ entry_for (requested q (building_in k m t)) 0 (first_record (requested q (building_in k m t))) ∷ []) where
    task_begun : task_in k m u q.ends slots ≡ requested q (building_in k m t)
    task_begun = λ i. record {
      building = building_kept t q u prepared k m i;
      start = q.ends.start;
      goal = q.ends.goal;
      leading = each_place_is t q u prepared (λ p. p.leading) q.leading.now 0 fair_asked.leading_long (λ s inside. refl) i;
      second = each_place_is t q u prepared (λ p. p.second) q.second.now 0 fair_asked.second_long (λ s inside. refl) i;
      slots = same i;
    }

    none_best : each_place (λ p. p.best) u ≡ replicate (length t.places.items) None
    none_best = each_place_is t q u prepared (λ p. p.best) (replicate (length t.places.items) None) None (length-replicate {A = Option ℕ} (length t.places.items) None) (λ s inside.
        sym (get_or-replicate {A = Option ℕ} (length t.places.items) s None None inside))

    state_begun : state_in u b waiting ≡ begun (requested q (building_in k m t))
    state_begun = ap (λ (c : Book). state_in u c waiting) is ∙ (λ i. record {
      records = first_record (requested q (building_in k m t)) ∷ [];
      bests = none_best i;
      waiting = wait i;
      choices = [];
      opened = 0;
      shown = 0;
      dropped = 0;
    })

    stage_begun : opened (task_in k m u q.ends slots) (state_in u b waiting) ≡ opened (requested q (building_in k m t)) (begun (requested q (building_in k m t)))
    stage_begun = λ i. opened (task_begun i) (state_begun i)

    searching_begun : Searching (Opened q.ends) (λ ends. task_in k m u ends slots) (state_in u b waiting)
    searching_begun ends same =
        let e : q.ends ≡ ends = cc in
        subst (λ (x : Ends). Reached (task_in k m u x slots) (state_in u b waiting)) e (subst₂ Reached (sym task_begun) (sym state_begun) (record { asked = asked; is = refl }))

  -- the table u, the book c and the waiting entries ws of a plan with n slots are those of the search that was asked for
  pub record Begins (u : Table) (c : Book) (n : ℕ) (ws : List Entry) : Type 0 where
    pub fair : FairBuilding (building_in k m u)
    pub indexed : Indexed u
    pub searching : Searching (Opened q.ends) (λ ends. task_in k m u ends n) (state_in u c ws)
    pub roomy : Roomy c
    pub stage : opened (task_in k m u q.ends n) (state_in u c ws) ≡ opened (requested q (building_in k m t)) (begun (requested q (building_in k m t)))

  pub begins : Indexed t → (u : Table) (c : Book) (i a b n n' : ℕ) (es ws : List Entry) → Prepared t q u → c ≡ begun_book q.ends.start → i ≡ q.ends.start → a ≡ k.joined 0 (get_or q.leading.now i 0) → b ≡ m.joined 0 (get_or q.second.now i 0) →
      es ≡ [] → n ≡ q.slots → ws ≡ put_bag n (entry_of a b 0) es → n' ≡ n → Begins u c n' ws
  begins indexed u c i a b n n' es ws prepared is at lead other none same put kept =
      let wait = waits i a b n es ws at lead other none same put in
      record {
        fair = subst FairBuilding (sym (building_kept t q u prepared k m)) building;
        indexed = indexed_kept t q u prepared indexed;
        searching = searching_begun u c prepared is n' ws (kept ∙ same) wait;
        roomy = subst Roomy (sym is) (omega arith, omega arith);
        stage = stage_begun u c prepared is n' ws (kept ∙ same) wait;
      }
