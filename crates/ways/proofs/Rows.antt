-- The lines of the places, one after another. Assumes nothing.
use Rattle.std.proofs.Common.{◌≡◌, ℕ, ◌+◌, ◌<◌, List, [], ◌∷◌, ◌++◌, map, take, drop, codes, sym, ap, ◌∙◌, append-nil, arith, take-append-drop}
use Rattle.std.specs.List.{concat, range_with_len}
use Rattle.std.proofs.lemmas.List.Folds.{concat-append}
use Rattle.std.proofs.lemmas.List.FromFn.{map-range_with_len_more, take-map-range_with_len}
use Rattle.ways.specs.Description.{place_line}

module _ (bs : List ℕ) where
  abbrev pub row : ℕ → List ℕ
  row i = place_line (codes "place ") bs i

  abbrev pub rows : ℕ → List ℕ
  rows n = concat (map row (range_with_len 0 n))

  pub rows_more : (i : ℕ) → rows (i + 1) ≡ rows i ++ row i
  rows_more i =
      ap concat (map-range_with_len_more row 0 i i (omega arith)) ∙ concat-append (map row (range_with_len 0 i)) (row i ∷ []) ∙
      ap (λ (l : List ℕ). rows i ++ l) (append-nil (row i))

  -- the rows up to one, and those behind it
  pub rows_split : (i n : ℕ) → i < n → rows n ≡ (rows i ++ row i) ++ concat (drop (i + 1) (map row (range_with_len 0 n)))
  rows_split i n below =
      let all = map row (range_with_len 0 n) in
      ap concat (sym (take-append-drop (i + 1) all)) ∙ concat-append (take (i + 1) all) (drop (i + 1) all) ∙
      ap (λ (l : List ℕ). l ++ concat (drop (i + 1) all)) (ap concat (take-map-range_with_len row 0 n (i + 1) (omega arith)) ∙ rows_more i)
