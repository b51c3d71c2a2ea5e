-- Ways as lists of passages, and ways of the abstract search. Assumes nothing.
use Rattle.std.proofs.Common.{◌≡◌, ℕ, ◌<◌, true, List, [], ◌∷◌, length, refl}
use Rattle.costs.specs.Kinds.{Kind, Lawful}
use Rattle.plan.specs.Ways.{Building, passage, Leads, total}
use Rattle.plan.specs.Openings.{FairForecast}
use Rattle.plan.proofs.Measures.{Way, here, along, Measure, size, join, sum}
use Rattle.plan.proofs.Instance.{Value, graph_of, measure_of}

module _ (b : Building) where
  pub way_of : (w : List ℕ) (s t : ℕ) → Leads b s t w → Way (graph_of b) s t
  way_of [] s t h = here h
  way_of (n ∷ w) s t h = along (n, h.0) h.1 (way_of w (passage b n).to t h.2)

  pub list_of : {s t : ℕ} → Way (graph_of b) s t → List ℕ
  list_of (here same) = []
  list_of (along e leaves w) = e.0 ∷ list_of w

  pub leads_of : {s t : ℕ} (w : Way (graph_of b) s t) → Leads b s t (list_of w)
  unfolding list_of
  leads_of (here same) = same
  leads_of (along e leaves w) = (e.1, leaves, leads_of w)

  -- the totals of the one are those of the other
  module _ (k : Kind) (laws : Lawful k) (goal : ℕ) (value : ℕ → ℕ) (forecast : List ℕ) (values : (n : ℕ) → n < length b.passages → k.is_value (value n) ≡ true) (long : length forecast ≡ b.places) (fair : FairForecast k b goal value forecast) where
    abbrev m : Measure (graph_of b)
    m = measure_of k laws b goal value forecast values long fair

    pub sum_list : {s t : ℕ} (g : Value k) (w : Way (graph_of b) s t) → size m (sum m g w) ≡ total k value g.0 (list_of w)
    unfolding list_of
    sum_list g (here same) = refl
    sum_list g (along e leaves w) = sum_list (join m g (m.cost e)) w

    pub sum_way : (w : List ℕ) (s t : ℕ) (g : Value k) (h : Leads b s t w) → size m (sum m g (way_of w s t h)) ≡ total k value g.0 w
    unfolding way_of
    sum_way [] s t g h = refl
    sum_way (n ∷ w) s t g h = sum_way w (passage b n).to t (join m g (value n, values n h.0)) h.2
