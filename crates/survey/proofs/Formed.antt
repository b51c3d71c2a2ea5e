-- A file that no question refuses is well formed. Assumes nothing.
use Rattle.std.proofs.Common.{◌≡◌, ℕ, ◌<◌, ◌≤◌, true, false, List, ◌++◌, length, is_some, Some, None, Option, refl, arith, length-drop, length-take-le}
use Rattle.std.proofs.lemmas.Bool.Decides.{nat_tests}
use Rattle.std.proofs.lemmas.Bool.{eqb-true}
use Rattle.survey.specs.declared.refusal.Refusal.{Refusal}
use Rattle.survey.specs.File.{places, passages, end_of_tables, label_offset, label_length, label_start, label_end, label_at, passage_in}
use Rattle.survey.specs.Questions.{first_no, each}
use Rattle.survey.specs.Reading.{header_questions, passage_questions, label_questions, end_questions, survey_questions, each_printable, WellFormed}
use Rattle.survey.proofs.Asked.{none_parts, none_yes, yes_at}

module _ (bs : List ℕ) (accepted : first_no (survey_questions bs) ≡ None) where
  parts : (first_no (header_questions bs) ≡ None) × ((first_no (each (passages bs) (passage_questions bs)) ≡ None) × ((first_no (each (places bs) (label_questions bs)) ≡ None) × (first_no (end_questions bs) ≡ None)))
  parts =
      let a = none_parts (header_questions bs) (each (passages bs) (passage_questions bs) ++ (each (places bs) (label_questions bs) ++ end_questions bs)) accepted in
      let b = none_parts (each (passages bs) (passage_questions bs)) (each (places bs) (label_questions bs) ++ end_questions bs) a.1 in
      (a.0, (b.0, none_parts (each (places bs) (label_questions bs)) (end_questions bs) b.1))

  header : (1 ≤ places bs) × (places bs ≤ 256) × (passages bs ≤ 1024) × (end_of_tables bs ≤ length bs)
  header = let yes_all = none_yes (header_questions bs) parts.0 in grind (arith, nat_tests)

  ends : (n : ℕ) → n < passages bs → ((passage_in bs n).from < places bs) × ((passage_in bs n).to < places bs)
  ends n h = let q5 = yes_at (passages bs) n (passage_questions bs) parts.1.0 h in grind (arith, nat_tests)

  label : (p : ℕ) → p < places bs → (label_offset bs p ≡ label_start bs p) × (1 ≤ label_length bs p) × (label_length bs p ≤ 16) × (label_end bs p ≤ length bs) × (each_printable (label_at bs p) ≡ true)
  label p h = let q6 = yes_at (places bs) p (label_questions bs) parts.1.1.0 h in grind (arith, nat_tests)

  label_length_is : (p : ℕ) → p < places bs → length (label_at bs p) ≡ label_length bs p
  label_length_is p h = let fits = (label p h).3 in length-take-le _ _ (rw length-drop (omega arith))

  pub formed_none : WellFormed bs
  formed_none = record {
    some = header.0;
    few_places = header.1;
    few_passages = header.2;
    tables = header.3;
    from_place = λ n h. (ends n h).0;
    to_place = λ n h. (ends n h).1;
    follows = λ p h. (label p h).0;
    named = λ p h. omega (arith, label_length_is p h, (label p h).1);
    short = λ p h. omega (arith, label_length_is p h, (label p h).2);
    within = λ p h. (label p h).3;
    readable = λ p h. (label p h).4;
    whole = eqb-true _ _ (none_yes (end_questions bs) parts.1.1.1).0;
  }

pub is_none : (o : Option Refusal) → is_some o ≡ false → o ≡ None
is_none None e = refl
is_none (Some r) e = cc

-- the same, from what a checked survey carries
pub well_formed : (bs : List ℕ) → is_some (first_no (survey_questions bs)) ≡ false → WellFormed bs
well_formed bs accepted = formed_none bs (is_none _ accepted)
