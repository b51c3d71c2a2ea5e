-- A search over open and closed nodes, and what always holds of one. Assumes nothing.
--   Problem              passages, two costs, a start, and where the search aims
--   Node                 a place with two totals
--   NoWorse y x          y is at the place of x, with totals no greater
--   Blocked cs x         a closed node of cs makes x useless
--   Answered o cs x      the same, or an open node is no worse
--   Covered o cs x       an open or a closed node is no worse, or a closed node at an end beats its estimates
--   Holds o cs           what always holds, with the open nodes o and the closed nodes cs, the newest first
use Rattle.std.proofs.Common.{◌≡◌, ℕ, ◌<◌, ◌≤◌, ◌⊎◌, List, [], ◌∷◌}
use Rattle.plan.proofs.Measures.{Graph, Way, Measure, Total, size, join, sum, estimate, Consistent}

pub record Problem : Type 1 where
  pub graph : Graph
  pub lead : Measure graph
  pub second : Measure graph
  pub start : ℕ
  -- where nodes are not opened up, and block by their second totals
  pub Ends : ℕ → Type 0
  -- for which places choices are asked
  pub Asked : ℕ → Type 0
  pub ends_or_not : (s : ℕ) → Ends s ⊎ (Ends s → ⊥)
  pub aimed : (s t : ℕ) → Ends s → Asked t → s ≡ t
  pub lead_consistent : Consistent lead
  pub second_consistent : Consistent second
  pub lead_none : (t : ℕ) → Asked t → size lead (lead.forecast t) ≡ 0
  pub second_none : (t : ℕ) → Asked t → size second (second.forecast t) ≡ 0
  -- at one place, leading estimates are ordered as leading totals are
  pub lead_told : (a b : Total lead) (s : ℕ) → estimate lead a s ≤ estimate lead b s → size lead a ≤ size lead b

pub data In {A : Type 0} (x : A) : List A → Type 0 where
  top : {xs : List A} → In x (x ∷ xs)
  below : {y : A} {xs : List A} → In x xs → In x (y ∷ xs)

pub nowhere : {A : Type 0} (x : A) → In x [] → ⊥
nowhere x h = elim h [ ]

module _ (P : Problem) where
  abbrev L : Measure P.graph
  L = P.lead

  abbrev S : Measure P.graph
  S = P.second

  pub record Node : Type 0 where
    pub place : ℕ
    pub lead : Total L
    pub second : Total S

  abbrev pub lead_of : Node → ℕ
  lead_of n = size L n.lead

  abbrev pub second_of : Node → ℕ
  second_of n = size S n.second

  abbrev pub lead_estimate_at : Node → ℕ
  lead_estimate_at n = estimate L n.lead n.place

  abbrev pub second_estimate_at : Node → ℕ
  second_estimate_at n = estimate S n.second n.place

  abbrev pub child : Node → P.graph.Edge → Node
  child x e = record { place = P.graph.to e; lead = join L x.lead (L.cost e); second = join S x.second (S.cost e) }

  abbrev pub origin : Node
  origin = record { place = P.start; lead = L.algebra.none; second = S.algebra.none }

  -- the estimates of y come no later than those of x
  abbrev pub NoLater : Node → Node → Type 0
  NoLater y x = (lead_estimate_at y < lead_estimate_at x) ⊎ ((lead_estimate_at y ≡ lead_estimate_at x) × (second_estimate_at y ≤ second_estimate_at x))

  pub record NoWorse (y x : Node) : Type 0 where
    pub place : y.place ≡ x.place
    pub lead : lead_of y ≤ lead_of x
    pub second : second_of y ≤ second_of x

  -- some list of passages leads from the start to the node, with its totals
  pub record Real (n : Node) : Type 0 where
    pub way : Way P.graph P.start n.place
    pub lead : size L (sum L L.algebra.none way) ≡ lead_of n
    pub second : size S (sum S S.algebra.none way) ≡ second_of n

  pub data Blocked (closed : List Node) (x : Node) : Type 0 where
    here_before : (y : Node) → In y closed → y.place ≡ x.place → second_of y ≤ second_of x → Blocked closed x
    ended_before : (z : Node) → In z closed → P.Ends z.place → second_of z ≤ second_estimate_at x → Blocked closed x

  pub data Answered (open_nodes : Node → Type 0) (closed : List Node) (x : Node) : Type 0 where
    blocked : Blocked closed x → Answered open_nodes closed x
    waits : (y : Node) → open_nodes y → NoWorse y x → Answered open_nodes closed x

  pub data Covered (open_nodes : Node → Type 0) (closed : List Node) (x : Node) : Type 0 where
    by_open : (y : Node) → open_nodes y → NoWorse y x → Covered open_nodes closed x
    by_closed : (y : Node) → In y closed → NoWorse y x → Covered open_nodes closed x
    by_end : (z : Node) → In z closed → P.Ends z.place → lead_of z ≤ lead_estimate_at x → second_of z ≤ second_estimate_at x → Covered open_nodes closed x

  -- each closed node was unblocked when it was closed, and came no earlier than those before it
  pub data InOrder : List Node → Type 0 where
    empty : InOrder []
    later : {x : Node} {closed : List Node} → ((y : Node) → In y closed → NoLater y x) → (Blocked closed x → ⊥) → InOrder closed → InOrder (x ∷ closed)

  pub record Holds (open_nodes : Node → Type 0) (closed : List Node) : Type 0 where
    pub real_open : (n : Node) → open_nodes n → Real n
    pub real_closed : (n : Node) → In n closed → Real n
    pub closed_first : (y x : Node) → In y closed → open_nodes x → NoLater y x
    pub ordered : InOrder closed
    pub begun : Covered open_nodes closed origin
    pub opened : (x : Node) → In x closed → (P.Ends x.place → ⊥) → (e : P.graph.Edge) → P.graph.from e ≡ x.place → Covered open_nodes closed (child x e)

  pub record Same (y x : Node) : Type 0 where
    pub place : y.place ≡ x.place
    pub lead : lead_of y ≡ lead_of x
    pub second : second_of y ≡ second_of x

  -- x, the least of the open nodes, is closed, and of its children and of the other open nodes
  -- each is open afterwards or was answered
  pub record Closes (o : Node → Type 0) (closed : List Node) (x : Node) (o' : Node → Type 0) : Type 0 where
    pub was : o x
    pub least : (z : Node) → o z → NoLater x z
    pub unblocked : Blocked closed x → ⊥
    pub only : (n : Node) → o' n → o n ⊎ ((e : P.graph.Edge) × (P.graph.from e ≡ x.place) × Same n (child x e))
    pub left : (n : Node) → o n → Same n x ⊎ Answered o' (x ∷ closed) n
    pub children : (P.Ends x.place → ⊥) → (e : P.graph.Edge) → P.graph.from e ≡ x.place → Answered o' (x ∷ closed) (child x e)

  -- open nodes leave, each answered
  pub record Drops (o : Node → Type 0) (closed : List Node) (o' : Node → Type 0) : Type 0 where
    pub fewer : (n : Node) → o' n → o n
    pub left : (n : Node) → o n → Answered o' closed n
