-- Loading: the questions about the values of a survey's passages, and the table that is filled from it. Assumes nothing.
use Rattle.std.proofs.Common.{◌≡◌, ℕ, suc, ◌+◌, ◌<◌, ◌≤◌, true, false, List, [], ◌∷◌, ◌++◌, length, map, get_or, set, is_some, Some, None, Option, Ok, sym, ap, ◌∙◌, subst, zero-add, arith}
use Rattle.std.proofs.lemmas.List.{get_or-set_same, get_or-set_other, get_or-replicate, length-set, length-replicate, map-set, set-get_or, map_push}
use Rattle.std.proofs.lemmas.List.FromFn.{length-map-range_with_len, get_or-map-range_with_len, map-range_with_len_more}
use Rattle.std.proofs.lemmas.Bool.{cond-true, and_from}
use Rattle.std.specs.List.{range_with_len}
use Rattle.costs.specs.Kinds.{Kind, Lawful}
use Rattle.survey.specs.declared.passage.Passage.{Passage}
use Rattle.survey.specs.declared.refusal.Refusal.{Refusal}
use Rattle.survey.specs.File as surveyed
use Rattle.survey.specs.File.{byte}
use Rattle.survey.specs.Questions.{first_no, each, unless, decided}
use Rattle.survey.specs.Reading.{WellFormed, survey_questions}
use Rattle.survey.proofs.Asked.{passed}
use Rattle.survey.proofs.Formed.{well_formed}
use Rattle.plan.specs.declared.table.Link.{Link}
use Rattle.plan.specs.declared.table.Table.{Table}
use Rattle.plan.specs.Ways.{no_passage}
use Rattle.plan.specs.Openings.{building_of, value_questions, load_questions, FairBuilding}
use Rattle.plan.specs.Views.{no_link, place_at, link_at, place_from, with_first, passages_in, building_in, NoneFrom, FirstFrom, Unlinked, Copied, Filled}
use Rattle.plan.proofs.Fairness.{loaded_length, asked_fair}
use Rattle.plan.proofs.Tables.{many_passages, link_is}

-- the passages of the table t from the number n on are linked in u
pub record Linking (t u : Table) (n : ℕ) : Type 0 where
  pub places : length u.places.items ≡ length t.places.items
  pub passages : passages_in u ≡ passages_in t
  pub first : (s : ℕ) → s < length t.places.items → FirstFrom (passages_in t) s n (place_at u s).first
  pub next : (i : ℕ) → n ≤ i → i < length (passages_in t) → FirstFrom (passages_in t) (get_or (passages_in t) i no_passage).from (suc i) (get_or u.passages.items i no_link).next

-- the passage j of the table u is put in front of those that leave its place
module _ (t u : Table) (n j : ℕ) (one_on : n ≡ suc j) (unlinked : Unlinked t) (linked_on : Linking t u n) (below : j < length t.passages.items) where
  abbrev ps : List Passage
  ps = passages_in t

  abbrev from : ℕ
  from = place_from u j

  linking : Linking t u (suc j)
  linking = subst (Linking t u) one_on linked_on

  stored : j < length u.passages.items
  stored = omega (arith, below, ap length linking.passages, many_passages t, many_passages u)

  leaves : (get_or ps j no_passage).from ≡ from
  leaves = grind (arith, link_is, linking.passages, stored)

  pub place_there : place_from u j < length u.places.items
  place_there = omega (arith, unlinked.leaves j (omega (arith, below, many_passages t)), leaves, linking.places)

  kept : passages_in (with_first u j) ≡ passages_in u
  kept =
      map-set (λ (l : Link). l.passage) u.passages.items j _ ∙ ap (set (passages_in u) j) (sym (link_is u j stored)) ∙ set-get_or (passages_in u) j no_passage

  next_more : (i : ℕ) → j ≤ i → i < length ps → FirstFrom ps (get_or ps i no_passage).from (suc i) (link_at (with_first u j) i).next
  next_more i after inside = grind (arith, get_or-set_same, get_or-set_other, leaves, linking, place_there, stored)

  none_here : (s n : ℕ) → (s ≡ from → ⊥) → NoneFrom ps s (suc j) n → NoneFrom ps s j n
  none_here s n other h i after under out = grind (arith, leaves, h, other)

  -- a place that the passage does not leave has the same first passage
  passed_over : (s : ℕ) (o : Option ℕ) → (s ≡ from → ⊥) → FirstFrom ps s (suc j) o → FirstFrom ps s j o
  passed_over s None other h = none_here s _ other h
  passed_over s (Some n) other h = (omega (arith, h.0), h.1, h.2, none_here s n other h.3)

  first_more : (s : ℕ) → s < length t.places.items → FirstFrom ps s j (place_at (with_first u j) s).first
  first_more s inside = grind (arith, get_or-set_same, get_or-set_other, leaves, passed_over, place_there, many_passages, linking)

  pub linking_more : Linking t (with_first u j) j
  linking_more = record {
    places = length-set u.places.items from _ ∙ linking.places;
    passages = kept ∙ linking.passages;
    first = first_more;
    next = next_more;
  }

-- the first n passages of the survey are in the table
module _ (bs : List ℕ) (t : Table) (n : ℕ) (copied : passages_in t ≡ map (surveyed.passage_in bs) (range_with_len 0 n)) where
  pub many_pushed : length t.passages.items ≡ n
  many_pushed = grind (arith, many_passages, length-map-range_with_len)

  pub pushed_more : (ls : List Link) (p : Passage) → p ≡ surveyed.passage_in bs n → ls ≡ t.passages.items ++ record { passage = p; next = None } ∷ [] → map (λ (l : Link). l.passage) ls ≡ map (surveyed.passage_in bs) (range_with_len 0 (n + 1))
  pushed_more ls p is pushed =
      ap (map (λ (l : Link). l.passage)) pushed ∙ map_push (λ (l : Link). l.passage) t.passages.items (record { passage = p; next = None }) ∙
      (λ i. copied i ++ is i ∷ []) ∙ sym (map-range_with_len_more (surveyed.passage_in bs) 0 n n (zero-add n))

-- what the survey says is in the table
module _ (bs : List ℕ) (t : Table) where
  pub many_copied : Copied bs t → length t.places.items ≡ surveyed.places bs
  many_copied copied = grind (arith, length-replicate, copied)

  pub unlinked_copied : WellFormed bs → Copied bs t → Unlinked t
  unlinked_copied formed copied = record {
    none = λ s inside. grind (arith, get_or-replicate, many_copied, copied);
    leaves = λ n inside. grind (arith, length-map-range_with_len, get_or-map-range_with_len, many_copied, formed, copied);
  }

module _ (k m : Kind) (bs : List ℕ) where
  -- where the kinds carry the letters, the values decide
  pub letters_carried : k.is_letter (byte bs 6) ≡ true → m.is_letter (byte bs 7) ≡ true → decided (load_questions (byte bs 6) (byte bs 7) (building_of k m bs)) (tt {0}) ≡ decided (each (surveyed.passages bs) (value_questions (building_of k m bs))) (tt {0})
  letters_carried first second =
      ap (λ (r : Option Refusal). unless r (tt {0})) (cond-true _ _ _ (and_from _ _ first second) ∙ ap (λ (n : ℕ). first_no (each n (value_questions (building_of k m bs)))) (loaded_length k m bs))

  -- the table then holds the building of the survey, which is fair
  module _ (t : Table) (filled : Filled bs t) where
    building_filled : building_in k m t ≡ building_of k m bs
    building_filled = λ i. record { leading = k; second = m; places = filled.places i; passages = filled.passages i }

    pub fair_filled : Lawful k → Lawful m → is_some (first_no (survey_questions bs)) ≡ false → decided (load_questions (byte bs 6) (byte bs 7) (building_of k m bs)) (tt {0}) ≡ Ok (tt {0}) → FairBuilding (building_in k m t)
    fair_filled laws others accepted asked = rw building_filled (asked_fair.loading k m bs (byte bs 6) (byte bs 7) laws others (well_formed bs accepted) (passed _ (tt {0}) (tt {0}) (sym asked)).0)
