-- How a text grows part by part. Assumes nothing.
use Rattle.std.proofs.Common.{◌≡◌, ℕ, ◌+◌, ◌<◌, List, [], ◌++◌, length, get_or, take, drop, Ok, Err, vec_items, Result, Vec, sym, ap, ◌∙◌, append_assoc, append-nil, arith, length-append, take-append-drop}
use Rattle.ways.specs.declared.text.Part.{Part}
use Rattle.std.proofs.lemmas.List.{take_more, flat_map_more}
use Rattle.std.proofs.lemmas.List.Concat.{flat_map-append}
use Rattle.ways.specs.Text.{written, written_all, Grown, Lacks, Adds}

module _ {Z : Type 0} {a b c : Vec ℕ Z} where
  pub grown_then : (xs ys : List ℕ) → Grown a b xs → Grown b c ys → Grown a c (xs ++ ys)
  grown_then xs ys first next = record {
    bytes = next.bytes ∙ ap (λ (l : List ℕ). l ++ ys) first.bytes ∙ append_assoc (vec_items a) xs ys;
    len = omega (arith, length-append xs ys, first.len, next.len);
    room = omega (arith, first.room, next.room);
  }

module _ {Z : Type 0} {a b : Vec ℕ Z} where
  pub lacks_then : (xs ys : List ℕ) → Grown a b xs → Lacks b ys → Lacks a (xs ++ ys)
  lacks_then xs ys first short = record { full = omega (arith, length-append xs ys, first.len, first.room, short.full) }

module _ {Z : Type 0} {a : Vec ℕ Z} where
  pub grown_none : Grown a a []
  grown_none = record { bytes = sym (append-nil (vec_items a)); len = omega arith; room = omega arith }

  pub lacks_more : (xs ys : List ℕ) → Lacks a xs → Lacks a (xs ++ ys)
  lacks_more xs ys short = record { full = omega (arith, length-append xs ys, short.full) }

-- the parts before, at and behind an index
pub written_at : (ps : List Part) (i : ℕ) (d : Part) → i < length ps → written_all (take (i + 1) ps) ≡ written_all (take i ps) ++ written (get_or ps i d)
written_at ps i d below = ap written_all (take_more ps i d below) ∙ sym (flat_map_more written [] (take i ps) (get_or ps i d))

pub written_split : (ps : List Part) (i : ℕ) → written_all ps ≡ written_all (take i ps) ++ written_all (drop i ps)
written_split ps i = ap written_all (sym (take-append-drop i ps)) ∙ flat_map-append written (take i ps) (drop i ps)

pub adds_then : {Z T E : Type 0} {a b : Vec ℕ Z} (c : Vec ℕ Z) (xs ys : List ℕ) (r : Result T E) → Grown a b xs → Adds b c ys r → Adds a c (xs ++ ys) r
adds_then c xs ys (Ok x) first next = grown_then xs ys first next
adds_then c xs ys (Err y) first next = lacks_then xs ys first next
