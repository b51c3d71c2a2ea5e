-- What a call asks before it is accepted, and what it answers when refused. Assumes nothing.
--   Question           a number, a spot and the answer, true for "yes"
--   first_no qs        the refusal of the first question of qs with the answer "no", if there is one
--   decided qs v       what a call with the questions qs answers: v, or that refusal
--   each n qs          the questions of 0, then those of 1, up to those of n - 1
--   told f r           a result with its fault told as the refusal that it stands for
--   told_of g f r      the same, with what g reads off its value
use Rattle.std.specs.Prelude.{ℕ, zero, suc, Bool, cond, List, [], ◌∷◌, ◌++◌, Some, None, Ok, Err, Option, Result}
use Rattle.survey.specs.declared.refusal.Refusal.{Refusal}

pub record Question : Type 0 where
  pub number : ℕ
  pub spot : ℕ
  pub answer : Bool

abbrev pub ask : ℕ → ℕ → Bool → Question
ask n s b = record { number = n; spot = s; answer = b }

abbrev pub refusal_by : Question → Refusal
refusal_by q = record { number = q.number; spot = q.spot }

abbrev pub first_no : List Question → Option Refusal
first_no [] = None
first_no (q ∷ qs) = cond q.answer (first_no qs) (Some (refusal_by q))

abbrev pub unless : {T : Type 0} → Option Refusal → T → Result T Refusal
unless None v = Ok v
unless (Some r) v = Err r

abbrev pub decided : {T : Type 0} → List Question → T → Result T Refusal
decided qs v = unless (first_no qs) v

abbrev pub each_from : ℕ → ℕ → (ℕ → List Question) → List Question
each_from k zero qs = []
each_from k (suc n) qs = qs k ++ each_from (suc k) n qs

abbrev pub each : ℕ → (ℕ → List Question) → List Question
each n qs = each_from 0 n qs

abbrev pub told_of : {T U F : Type 0} → (T → U) → (F → Refusal) → Result T F → Result U Refusal
told_of g f (Ok v) = Ok (g v)
told_of g f (Err e) = Err (f e)

abbrev pub told : {T F : Type 0} → (F → Refusal) → Result T F → Result T Refusal
told f r = told_of (λ v. v) f r
