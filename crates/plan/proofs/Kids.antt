-- The children of a record, passage by passage. Assumes nothing.
--   rest_of o      the children by the passages from the number o on
use Rattle.std.proofs.Common.{◌≡◌, ℕ, zero, suc, ◌+◌, ◌-◌, ◌<◌, ◌≤◌, Bool, true, false, cond, not, ◌&&◌, ◌||◌, eqb, List, [], ◌∷◌, ◌++◌, length, get_or, drop, is_some, Some, None, Option, sym, refl, ap, ◌∙◌, subst, arith, drop-cons, length-append}
use Rattle.std.proofs.lemmas.List.{get_or-set_same, get_or-set_other, length-map, drop_all, append_assoc}
use Rattle.std.proofs.lemmas.Bool.{cond-true, cond-false, cond_both, and_left, and_right, and_from, eq-eqb, ne_eqb, le-leb, or_left, not_from_true, not_from_false, both_ways}
use Rattle.costs.specs.Kinds.{Kind}
use Rattle.costs.specs.declared.kind.CostKind as kinds
use Rattle.costs.specs.Bag.{inserted}
use Rattle.costs.specs.Order.{entry_of}
use Rattle.costs.specs.declared.entry.Entry.{Entry}
use Rattle.costs.specs.Bags.{length_inserted}
use Rattle.survey.specs.declared.passage.Passage.{Passage}
use Rattle.plan.specs.declared.book.Book.{Book}
use Rattle.plan.specs.declared.children.Child.{Child}
use Rattle.plan.specs.declared.parent.Parent.{Parent}
use Rattle.plan.specs.declared.place.Place.{Place}
use Rattle.plan.specs.declared.record.Record.{Record}
use Rattle.plan.specs.declared.table.Table.{Table}
use Rattle.plan.specs.Ways.{no_passage}
use Rattle.plan.specs.Rules.{Task, at_most, best_at, useless, child_along, children_from, put_all}
use Rattle.plan.specs.Joins.{Joined}
use Rattle.plan.specs.Views.{place_at, link_at, each_place, passages_in, NoneFrom, FirstFrom}
use Rattle.plan.proofs.Tables.{each_at, many_passages, link_is}
use Rattle.plan.specs.Children.{bests_with, child_with, Opens, with_record}
use Rattle.plan.specs.Parents.{aim, child, children}

-- the passage o, if there is one, leaves the place s
abbrev pub Leaving : List Passage → ℕ → Option ℕ → Type 0
Leaving ps s None = Unit {0}
Leaving ps s (Some n) = (n < length ps) × ((get_or ps n no_passage).from ≡ s)

-- how many numbers of n passages are left from o on
abbrev pub to_go : ℕ → Option ℕ → ℕ
to_go n None = 0
to_go n (Some i) = suc n - i

pub first_leaves : (ps : List Passage) (s n : ℕ) (o : Option ℕ) → FirstFrom ps s n o → Leaving ps s o
first_leaves ps s n None h = tt
first_leaves ps s n (Some j) h = (h.1, h.2)

-- no more children than passages
pub few_children : (task : Task) (bests : List (Option ℕ)) (number : ℕ) (r : Record) (n : ℕ) (ps : List Passage) → length (children_from task bests number r n ps) ≤ length ps
few_children task bests number r n [] = omega arith
few_children task bests number r n (p ∷ ps) =
    cond_both (eqb p.from r.place && not (useless task bests (child_along task number r n))) _ _ (λ (rs : List Record). length rs ≤ suc (length ps))
    (λ e. omega (arith, few_children task bests number r (suc n) ps)) (λ e. omega (arith, few_children task bests number r (suc n) ps))

-- the passages from k to k + gap do not leave the place of the record
module _ (task : Task) (bests : List (Option ℕ)) (number : ℕ) (r : Record) (ps : List Passage) where
  abbrev from_on : ℕ → List Record
  from_on n = children_from task bests number r n (drop n ps)

  abbrev pub rest_of : Option ℕ → List Record
  rest_of None = []
  rest_of (Some n) = from_on n

  abbrev rest_test : ℕ → Bool
  rest_test n = eqb (get_or ps n no_passage).from r.place && not (useless task bests (child_along task number r n))

  -- one passage on
  one_on : (n : ℕ) → n < length ps → from_on n ≡ cond (rest_test n) (child_along task number r n ∷ from_on (suc n)) (from_on (suc n))
  one_on n inside = ap (children_from task bests number r n) (drop-cons ps n no_passage inside)

  skips : (gap n : ℕ) → n + gap ≤ length ps → NoneFrom ps r.place n (n + gap) → from_on n ≡ from_on (n + gap)
  skips zero n within none = let same : n ≡ n + 0 = omega arith in ap from_on same
  skips (suc gap) n within none =
      let here : rest_test n ≡ false = and_left _ _ (ne_eqb _ _ (none n (omega arith) (omega arith))) in
      let same : suc n + gap ≡ n + suc gap = omega arith in
      one_on n (omega arith) ∙ cond-false _ _ _ here ∙ skips gap (suc n) (omega arith) (λ i low high. none i (omega arith) (omega arith)) ∙ ap from_on same

  pub rest_from : (n : ℕ) (o : Option ℕ) → n ≤ length ps → FirstFrom ps r.place n o → from_on n ≡ rest_of o
  rest_from n None within none =
      let all : n + (length ps - n) ≡ length ps = omega arith in
      skips (length ps - n) n (omega arith) (λ i low high. none i low (omega arith)) ∙ ap from_on all ∙ ap (children_from task bests number r (length ps)) (drop_all (length ps) ps (omega arith))
  rest_from n (Some j) within found =
      let there : n + (j - n) ≡ j = omega (arith, found.0) in
      skips (j - n) n (omega (arith, found.1)) (λ i low high. found.3 i low (omega arith)) ∙ ap from_on there

  -- the passage n leaves, and its child comes first, if it is of use
  module _ (n : ℕ) (inside : n < length ps) (leaves : (get_or ps n no_passage).from ≡ r.place) (o : Option ℕ) (next : FirstFrom ps r.place (suc n) o) where
    pub rest_useless : useless task bests (child_along task number r n) ≡ true → rest_of (Some n) ≡ rest_of o
    rest_useless e = one_on n inside ∙ cond-false _ _ _ (and_right _ _ (not_from_true _ e)) ∙ rest_from (suc n) o (omega arith) next

    pub rest_useful : useless task bests (child_along task number r n) ≡ false → rest_of (Some n) ≡ child_along task number r n ∷ rest_of o
    rest_useful e = one_on n inside ∙ cond-true _ _ _ (and_from _ _ (eq-eqb _ _ leaves) (not_from_false _ e)) ∙ ap (λ (rs : List Record). child_along task number r n ∷ rs) (rest_from (suc n) o (omega arith) next)

-- what an answer tells of the test behind it
pub some_useful : {X : Type 0} (b : Bool) (x : X) → true ≡ is_some (cond b None (Some x)) → b ≡ false
some_useful true x e = absurd (both_ways _ refl (sym e))
some_useful false x e = refl

pub none_useless : {X : Type 0} (b : Bool) (x : X) → false ≡ is_some (cond b None (Some x)) → b ≡ true
none_useless true x e = refl
none_useless false x e = absurd (both_ways _ (sym e) refl)

pub answer_child : {X : Type 0} (b : Bool) (x y : X) → Some x ≡ cond b None (Some y) → x ≡ y
answer_child true x y e = cc
answer_child false x y e = cc

module _ {A B : Type 0} {g : kinds.Ghosts A} {h : kinds.Ghosts B} (up : Parent A B g h) where
  abbrev k : Kind
  k = g.kind

  abbrev m : Kind
  m = h.kind

  abbrev t : Table
  t = up.table.now

  abbrev r : Record
  r = up.found

  abbrev number : ℕ
  number = up.number

  abbrev opens : Opens k m t up.ends r
  opens = up.opens

  best_of : (s : ℕ) → s < length t.places.items → best_at (each_place (λ q. q.best) t) s ≡ (place_at t s).best
  best_of s inside = each_at (λ q. q.best) None t s inside

  -- the passage n of the table, and the child by it
  module _ (n : ℕ) (inside : n < length t.passages.items) where
    abbrev p : Passage
    p = (link_at t n).passage

    abbrev kid : Record
    kid = child_along (aim up) number r n

    listed : n < length (passages_in t)
    listed = omega (arith, many_passages t)

    to_kid : p.to ≡ kid.place
    to_kid = ap (λ (q : Passage). q.to) (sym (link_is t n inside))

    pub to_place : p.to < length t.places.items
    to_place = omega (arith, to_kid, opens.building.to_place n listed)

    pub join_leading : Joined k r.leading p.leading
    join_leading = rw (← link_is t n inside) (opens.joins n listed).leading

    pub join_second : Joined m r.second p.second
    join_second = rw (← link_is t n inside) (opens.joins n listed).second

    pub join_leading_estimate : Joined k (k.joined r.leading p.leading) (place_at t p.to).leading
    join_leading_estimate = rw (← each_at (λ s. s.leading) 0 t p.to to_place, ← link_is t n inside) ((opens.joins n listed).estimates number).leading

    pub join_estimate : Joined m (m.joined r.second p.second) (place_at t p.to).second
    join_estimate = rw (← each_at (λ s. s.second) 0 t p.to to_place, ← link_is t n inside) ((opens.joins n listed).estimates number).second

    -- by the bests in the table, where it leads elsewhere
    abbrev blocked : Bool
    blocked = at_most (place_at t p.to).best (m.joined r.second p.second) || at_most (place_at t up.ends.goal).best (m.joined (m.joined r.second p.second) (place_at t p.to).second)

    useless_there : (p.to ≡ r.place → ⊥) → useless (aim up) (bests_with t r) kid ≡ blocked
    useless_there other =
        let at_place : best_at (bests_with t r) p.to ≡ (place_at t p.to).best =
        get_or-set_other (each_place (λ s. s.best) t) r.place p.to (Some r.second) None other ∙ best_of p.to to_place in
        let at_goal : best_at (bests_with t r) up.ends.goal ≡ (place_at t up.ends.goal).best =
        get_or-set_other (each_place (λ s. s.best) t) r.place up.ends.goal (Some r.second) None (λ same. opens.elsewhere (sym same)) ∙ best_of up.ends.goal opens.goal in
        rw (← at_place, ← at_goal, ← each_at (λ s. s.second) 0 t p.to to_place, ← link_is t n inside) refl

    useless_back : p.to ≡ r.place → useless (aim up) (bests_with t r) kid ≡ true
    useless_back back =
        let here : best_at (bests_with t r) kid.place ≡ Some r.second =
        ap (best_at (bests_with t r)) (sym to_kid ∙ back) ∙ get_or-set_same (each_place (λ s. s.best) t) r.place (Some r.second) None (omega (arith, length-map t.places.items (λ (s : Place). s.best), opens.place)) in
        or_left _ _ (ap (λ (o : Option ℕ). at_most o kid.second) here ∙ le-leb _ _ no_less)
      where
        no_less : r.second ≤ kid.second
        no_less =
            let laws = opens.building.second_laws in
            let fits = opens.building.second_fits n listed in
            omega (arith, laws.zero_right r.second opens.second, laws.mono_right 0 _ r.second laws.zero_value fits.value opens.second (omega arith))

    pub none_back : p.to ≡ r.place → child up n ≡ None
    none_back back = cond-true _ _ _ (useless_back back)

    pub none_blocked : (p.to ≡ r.place → ⊥) → blocked ≡ true → child up n ≡ None
    none_blocked other e = cond-true _ _ _ (useless_there other ∙ e)

    pub some_child : (p.to ≡ r.place → ⊥) → blocked ≡ false → child up n ≡ Some (record {
      found = record { place = p.to; leading = k.joined r.leading p.leading; second = m.joined r.second p.second; parent = Some number; passage = n };
      leading = k.joined (k.joined r.leading p.leading) (place_at t p.to).leading;
      second = m.joined (m.joined r.second p.second) (place_at t p.to).second;
    })
    some_child other e =
        cond-false _ _ _ (useless_there other ∙ e) ∙
        rw (← each_at (λ s. s.leading) 0 t p.to to_place, ← each_at (λ s. s.second) 0 t p.to to_place, ← link_is t n inside) refl

  abbrev pub rest : Option ℕ → List Record
  rest o = rest_of (aim up) (bests_with t r) number r (passages_in t) o

  -- how far the children are counted
  pub record Counting (count : ℕ) (o : Option ℕ) : Type 0 where
    pub counted : count + length (rest o) ≡ length (children up)
    pub leaving : Leaving (passages_in t) r.place o

  -- all children are left at the place of r
  module _ (p : Place) (is : p ≡ place_at t r.place) where
    first_there : FirstFrom (passages_in t) r.place 0 p.first
    first_there = rw is (opens.indexed.first r.place opens.place)

    first_leaving : Leaving (passages_in t) r.place p.first
    first_leaving = first_leaves (passages_in t) r.place 0 p.first first_there

    all_left : children up ≡ rest p.first
    all_left = rest_from (aim up) (bests_with t r) number r (passages_in t) 0 p.first (omega arith) first_there

    pub counting_none : Counting 0 p.first
    counting_none = record { counted = let same = ap length all_left in omega arith; leaving = first_leaving }

  -- the passage n is the next that leaves
  module _ (n : ℕ) (leaving : Leaving (passages_in t) r.place (Some n)) where
    next_first : FirstFrom (passages_in t) r.place (suc n) (link_at t n).next
    next_first = subst (λ (s : ℕ). FirstFrom (passages_in t) s (suc n) (link_at t n).next) leaving.1 (opens.indexed.next n leaving.0)

    next_leaves : Leaving (passages_in t) r.place (link_at t n).next
    next_leaves = first_leaves (passages_in t) r.place (suc n) (link_at t n).next next_first

    useful_rest : true ≡ is_some (child up n) → rest (Some n) ≡ child_along (aim up) number r n ∷ rest (link_at t n).next
    useful_rest e = rest_useful (aim up) (bests_with t r) number r (passages_in t) n leaving.0 leaving.1 (link_at t n).next next_first (some_useful _ _ e)

    useless_rest : false ≡ is_some (child up n) → rest (Some n) ≡ rest (link_at t n).next
    useless_rest e = rest_useless (aim up) (bests_with t r) number r (passages_in t) n leaving.0 leaving.1 (link_at t n).next next_first (none_useless _ _ e)

  module _ (count n : ℕ) (counting : Counting count (Some n)) where
    pub count_useful : true ≡ is_some (child up n) → Counting (count + 1) (link_at t n).next
    count_useful e = record { counted = omega (arith, counting.counted, ap length (useful_rest n counting.leaving e)); leaving = next_leaves n counting.leaving }

    pub count_useless : false ≡ is_some (child up n) → Counting count (link_at t n).next
    count_useless e = record { counted = omega (arith, counting.counted, ap length (useless_rest n counting.leaving e)); leaving = next_leaves n counting.leaving }

  pub count_small : (count : ℕ) (o : Option ℕ) → Counting count o → count ≤ 1024
  count_small count o counting = omega (arith, counting.counted, few_children (aim up) (bests_with t r) number r 0 (passages_in t), opens.building.few_passages)

  -- how far the children are stored, from the book c and the waiting entries es on
  pub record Adding (c : Book) (es : List Entry) (c' : Book) (es' : List Entry) (o : Option ℕ) : Type 0 where
    pub records : c'.records.items ++ rest o ≡ c.records.items ++ children up
    pub choices : c'.choices ≡ c.choices
    pub opened : c'.opened ≡ c.opened
    pub dropped : c'.dropped ≡ c.dropped
    pub waiting : put_all (aim up) (length c'.records.items) (rest o) es' ≡ put_all (aim up) (length c.records.items) (children up) es
    pub many : length es' + length (rest o) ≡ length es + length (children up)
    pub leaving : Leaving (passages_in t) r.place o

  module _ (c : Book) (es : List Entry) where
    pub adding_none : (p : Place) → p ≡ place_at t r.place → Adding c es c es p.first
    adding_none p is =
        let all = sym (all_left p is) in
        record {
          records = ap (λ (rs : List Record). c.records.items ++ rs) all;
          choices = refl;
          opened = refl;
          dropped = refl;
          waiting = ap (λ (rs : List Record). put_all (aim up) (length c.records.items) rs es) all;
          many = ap (λ (rs : List Record). length es + length rs) all;
          leaving = first_leaving p is;
        }

    module _ (n : ℕ) (c' : Book) (es' : List Entry) (adding : Adding c es c' es' (Some n)) where
      pub add_useless : false ≡ is_some (child up n) → Adding c es c' es' (link_at t n).next
      add_useless e =
          let same = sym (useless_rest n adding.leaving e) in
          record {
            records = ap (λ (rs : List Record). c'.records.items ++ rs) same ∙ adding.records;
            choices = adding.choices;
            opened = adding.opened;
            dropped = adding.dropped;
            waiting = ap (λ (rs : List Record). put_all (aim up) (length c'.records.items) rs es') same ∙ adding.waiting;
            many = ap (λ (rs : List Record). length es' + length rs) same ∙ adding.many;
            leaving = next_leaves n adding.leaving;
          }

      -- the child is stored, and its entry put
      module _ (d : Child) (some : child up n ≡ Some d) where
        useful : rest (Some n) ≡ child_along (aim up) number r n ∷ rest (link_at t n).next
        useful = useful_rest n adding.leaving (sym (ap is_some some))

        child_found : d ≡ child_with (aim up) (child_along (aim up) number r n)
        child_found = answer_child _ _ _ (sym some)

        pub used_left : length c'.records.items < length c.records.items + length (children up)
        used_left = omega (arith, ap length adding.records, length-append c'.records.items (rest (Some n)), length-append c.records.items (children up), ap length useful)

        pub add_useful : (c'' : Book) → c'' ≡ with_record c' d.found → (es'' : List Entry) → es'' ≡ inserted (entry_of d.leading d.second (length c'.records.items)) es' → Adding c es c'' es'' (link_at t n).next
        add_useful c'' b_is es'' es-is = subst (λ (x : Book). Adding c es x es'' (link_at t n).next) (sym b_is) (record {
          records = append_assoc c'.records.items (d.found ∷ []) (rest (link_at t n).next) ∙
              ap (λ (rs : List Record). c'.records.items ++ rs) (ap (λ (x : Child). x.found ∷ rest (link_at t n).next) child_found ∙ sym useful) ∙ adding.records;
          choices = adding.choices;
          opened = adding.opened;
          dropped = adding.dropped;
          waiting = waiting_more;
          many = omega (arith, adding.many, ap length useful, ap length es-is, length_inserted (entry_of d.leading d.second (length c'.records.items)) es');
          leaving = next_leaves n adding.leaving;
        })
          where
            waiting_more : put_all (aim up) (length (c'.records.items ++ d.found ∷ [])) (rest (link_at t n).next) es'' ≡ put_all (aim up) (length c.records.items) (children up) es
            waiting_more =
                let used = length c'.records.items in
                let next : length (c'.records.items ++ d.found ∷ []) ≡ suc used = omega (arith, length-append c'.records.items (d.found ∷ [])) in
                ap (λ (x : ℕ). put_all (aim up) x (rest (link_at t n).next) es'') next ∙
                ap (put_all (aim up) (suc used) (rest (link_at t n).next)) (es-is ∙ ap (λ (x : Child). inserted (entry_of x.leading x.second used) es') child_found) ∙
                ap (λ (rs : List Record). put_all (aim up) used rs es') (sym useful) ∙ adding.waiting
