-- What a way is, what it costs, and which pairs of totals are worth having. Assumes nothing.
--   Pair                 a leading and a second total
--   Building             places and passages, with two kinds of cost
--   Leads b s t w        the passages with the numbers w lead, one after another, from s to t
--   total k f g w        the total g joined, in order, with the values f of the passages w
--   totals b w           the two totals of a way, joined from 0
--   Beats x y            x is smaller than y in one total, and no greater in the other
--   OnFrontier b s t x   x is the pair of totals of a way from s to t, and no way's pair beats it
--   FirstOnes b s t xs   xs are the first pairs of the frontier, by rising leading total
--   Frontier b s t xs    xs are all of them
use Rattle.std.specs.Prelude.{◌≡◌, ℕ, ◌<◌, ◌≤◌, ◌⊎◌, List, [], ◌∷◌, length, slice_index_or}
use Rattle.costs.specs.Kinds.{Kind}
use Rattle.survey.specs.declared.passage.Passage.{Passage}

pub record Pair : Type 0 where
  pub lead : ℕ
  pub second : ℕ

pub record Building : Type 0 where
  pub leading : Kind
  pub second : Kind
  pub places : ℕ
  pub passages : List Passage

abbrev pub no_passage : Passage
no_passage = record { from = 0; to = 0; leading = 0; second = 0 }

abbrev pub passage : Building → ℕ → Passage
passage b n = slice_index_or b.passages n no_passage

abbrev pub Leads : Building → ℕ → ℕ → List ℕ → Type 0
Leads b s t [] = s ≡ t
Leads b s t (n ∷ w) = (n < length b.passages) × ((passage b n).from ≡ s) × Leads b (passage b n).to t w

abbrev pub total : Kind → (ℕ → ℕ) → ℕ → List ℕ → ℕ
total k value g [] = g
total k value g (n ∷ w) = total k value (k.joined g (value n)) w

abbrev pub totals : Building → List ℕ → Pair
totals b w = record {
  lead = total b.leading (λ n. (passage b n).leading) 0 w;
  second = total b.second (λ n. (passage b n).second) 0 w;
}

abbrev pub NoGreater : Pair → Pair → Type 0
NoGreater x y = (x.lead ≤ y.lead) × (x.second ≤ y.second)

abbrev pub Beats : Pair → Pair → Type 0
Beats x y = NoGreater x y × ((x.lead < y.lead) ⊎ (x.second < y.second))

pub record OnFrontier (b : Building) (s t : ℕ) (x : Pair) : Type 0 where
  pub way : List ℕ
  pub leads : Leads b s t way
  pub costs : totals b way ≡ x
  pub unbeaten : (w : List ℕ) → Leads b s t w → Beats (totals b w) x → ⊥

-- the pairs of the list rise in their leading totals
abbrev pub Rising : List Pair → Type 0
Rising [] = Unit {0}
Rising (x ∷ []) = Unit {0}
Rising (x ∷ y ∷ xs) = (x.lead < y.lead) × Rising (y ∷ xs)

abbrev pub Among : Pair → List Pair → Type 0
Among x [] = ⊥
Among x (y ∷ ys) = (x ≡ y) ⊎ Among x ys

-- x comes after every pair of the list
abbrev pub After : List Pair → Pair → Type 0
After ys x = (y : Pair) → Among y ys → y.lead < x.lead

pub record FirstOnes (b : Building) (s t : ℕ) (xs : List Pair) : Type 0 where
  pub rising : Rising xs
  pub each : (x : Pair) → Among x xs → OnFrontier b s t x
  pub first : (x : Pair) → OnFrontier b s t x → Among x xs ⊎ After xs x

pub record Frontier (b : Building) (s t : ℕ) (xs : List Pair) : Type 0 where
  pub first_ones : FirstOnes b s t xs
  pub whole : (x : Pair) → OnFrontier b s t x → Among x xs
