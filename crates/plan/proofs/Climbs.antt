-- Climbing from parent to parent gives a way with the totals of the record. Assumes nothing.
use Rattle.std.proofs.Common.{◌≡◌, ℕ, zero, suc, ◌<◌, ◌≤◌, List, [], ◌∷◌, ◌++◌, length, get_or, Option, sym, refl, ap, ◌∙◌, subst, arith}
use Rattle.costs.specs.Kinds.{Kind}
use Rattle.plan.specs.declared.leg.Leg.{Leg}
use Rattle.plan.specs.declared.record.Record.{Record}
use Rattle.plan.specs.Ways.{Building, Pair, passage, Leads, total, totals}
use Rattle.plan.specs.Rules.{Task, no_record, first_record, child_along, pair_of}
use Rattle.plan.specs.Legs.{leg_of, up_from, climb, passages_of, Running, WayWith}

passages_push : (ls : List Leg) (l : Leg) → passages_of (ls ++ l ∷ []) ≡ passages_of ls ++ l.passage ∷ []
passages_push [] l = refl
passages_push (m ∷ ls) l = ap (λ (ns : List ℕ). m.passage ∷ ns) (passages_push ls l)

total_push : (k : Kind) (value : ℕ → ℕ) (g n : ℕ) (w : List ℕ) → total k value g (w ++ n ∷ []) ≡ k.joined (total k value g w) (value n)
total_push k value g n [] = refl
total_push k value g n (m ∷ w) = total_push k value (k.joined g (value m)) n w

module _ (b : Building) where
  leads_push : (s t n : ℕ) (w : List ℕ) → Leads b s t w → n < length b.passages → (passage b n).from ≡ t → Leads b s (passage b n).to (w ++ n ∷ [])
  leads_push s t n [] h inside leaves = (inside, leaves ∙ sym h, refl)
  leads_push s t n (m ∷ w) h inside leaves = (h.0, h.1, leads_push (passage b m).to t n w h.2 inside leaves)

  running_push : (g h : ℕ) (ls : List Leg) (l : Leg) → Running b g h ls → l.place ≡ (passage b l.passage).to →
      l.leading ≡ b.leading.joined (total b.leading (λ n. (passage b n).leading) g (passages_of ls)) (passage b l.passage).leading →
      l.second ≡ b.second.joined (total b.second (λ n. (passage b n).second) h (passages_of ls)) (passage b l.passage).second →
      Running b g h (ls ++ l ∷ [])
  running_push g h [] l run place lead second = (place, lead, second, tt)
  running_push g h (m ∷ ls) l run place lead second = (
    run.0,
    run.1,
    run.2,
    running_push m.leading m.second ls l run.3 place
        (lead ∙ ap (λ (k : ℕ). b.leading.joined (total b.leading (λ n. (passage b n).leading) k (passages_of ls)) (passage b l.passage).leading) (sym run.1))
        (second ∙ ap (λ (k : ℕ). b.second.joined (total b.second (λ n. (passage b n).second) k (passages_of ls)) (passage b l.passage).second) (sym run.2)),
  )

module _ (task : Task) where
  -- the record k is the first, or was opened up from one with a lower number
  pub data Born (rs : List Record) (k : ℕ) : Type 0 where
    first : get_or rs k no_record ≡ first_record task → Born rs k
    opened_from : (m n : ℕ) → m < k → n < length task.building.passages → (passage task.building n).from ≡ (get_or rs m no_record).place → get_or rs k no_record ≡ child_along task m (get_or rs m no_record) n → Born rs k

  abbrev Climbed : List Record → ℕ → List Leg → Type 0
  Climbed rs k ls = WayWith task.building task.start (get_or rs k no_record).place (pair_of (get_or rs k no_record)) ls

  module _ (rs : List Record) (born : (k : ℕ) → k < length rs → Born rs k) where
    none_up : (k : ℕ) → get_or rs k no_record ≡ first_record task → Climbed rs k []
    none_up k is = record { leads = sym (ap (λ (r : Record). r.place) is); costs = sym (ap pair_of is); running = tt }

    one_up : (m n k : ℕ) (ls : List Leg) → n < length task.building.passages → (passage task.building n).from ≡ (get_or rs m no_record).place → get_or rs k no_record ≡ child_along task m (get_or rs m no_record) n → Climbed rs m ls → Climbed rs k (ls ++ leg_of (get_or rs k no_record) ∷ [])
    one_up m n k ls inside leaves is below = subst (λ (r : Record). WayWith task.building task.start r.place (pair_of r) (ls ++ leg_of r ∷ [])) (sym is) (record {
      leads = subst (Leads task.building task.start (passage task.building n).to) (sym (passages_push ls (leg_of (child_along task m (get_or rs m no_record) n))))
          (leads_push task.building task.start (get_or rs m no_record).place n (passages_of ls) below.leads inside leaves);
      costs = ap (totals task.building) (passages_push ls (leg_of (child_along task m (get_or rs m no_record) n))) ∙ (λ i. record {
        lead = (total_push task.building.leading (λ k. (passage task.building k).leading) 0 n (passages_of ls) ∙ ap (λ (g : ℕ). task.building.leading.joined g (passage task.building n).leading) lead_below) i;
        second = (total_push task.building.second (λ k. (passage task.building k).second) 0 n (passages_of ls) ∙ ap (λ (g : ℕ). task.building.second.joined g (passage task.building n).second) second_below) i;
      });
      running = running_push task.building 0 0 ls (leg_of (child_along task m (get_or rs m no_record) n)) below.running refl
          (ap (λ (g : ℕ). task.building.leading.joined g (passage task.building n).leading) (sym lead_below))
          (ap (λ (g : ℕ). task.building.second.joined g (passage task.building n).second) (sym second_below));
    })
      where
        lead_below : total task.building.leading (λ k. (passage task.building k).leading) 0 (passages_of ls) ≡ (get_or rs m no_record).leading
        lead_below = ap (λ (x : Pair). x.lead) below.costs

        second_below : total task.building.second (λ k. (passage task.building k).second) 0 (passages_of ls) ≡ (get_or rs m no_record).second
        second_below = ap (λ (x : Pair). x.second) below.costs

    pub climbs : (fuel k : ℕ) → k ≤ fuel → k < length rs → Climbed rs k (climb fuel rs k)
    climbs zero k enough inside =
        elim (born k inside) [
          | first is ↦ none_up k is
          | opened_from m n lower there leaves is ↦ absurd (omega arith)
        ]
    climbs (suc fuel) k enough inside =
        elim (born k inside) [
          | first is ↦ subst (λ (o : Option ℕ). Climbed rs k (up_from o (climb fuel rs) (leg_of (get_or rs k no_record)))) (sym (ap (λ (r : Record). r.parent) is)) (none_up k is)
          | opened_from m n lower there leaves is ↦
              subst (λ (o : Option ℕ). Climbed rs k (up_from o (climb fuel rs) (leg_of (get_or rs k no_record)))) (sym (ap (λ (r : Record). r.parent) is))
              (one_up m n k (climb fuel rs m) there leaves is (climbs fuel m (omega arith) (omega arith)))
        ]
