-- What a cost kind is. Assumes nothing.
--   Kind                 letters, values, the rule that joins two values, two ceilings, and whether it cancels
--   join_limit           the greatest ordinary sum of two values that the program joins
--   limited k a b        what the program's join of the kind k answers
--   Lawful k             the laws that every kind keeps, for all its values
--   sum, worst           the two kinds that there are
use Rattle.std.specs.Prelude.{◌≡◌, ℕ, ◌+◌, ◌<◌, ◌≤◌, max, Bool, true, false, cond, ◌&&◌, ◌||◌, Some, None, Option, ◌==◌, nat_le}

pub record Kind : Type 0 where
  pub is_letter : ℕ → Bool
  pub is_value : ℕ → Bool
  -- for values of every size
  pub joined : ℕ → ℕ → ℕ
  pub passage_ceiling : ℕ
  pub forecast_ceiling : ℕ
  pub cancels : Bool

abbrev pub join_limit : ℕ
join_limit = 2000000000

abbrev pub limited : Kind → ℕ → ℕ → Option ℕ
limited k a b =
    cond ((k.is_value a && k.is_value b) && nat_le (a + b) join_limit) (Some (k.joined a b)) None

pub record Lawful (k : Kind) : Type 0 where
  pub zero_value : k.is_value 0 ≡ true
  pub zero_left : (a : ℕ) → k.is_value a ≡ true → k.joined 0 a ≡ a
  pub zero_right : (a : ℕ) → k.is_value a ≡ true → k.joined a 0 ≡ a
  pub closed : (a b : ℕ) → k.is_value a ≡ true → k.is_value b ≡ true → k.is_value (k.joined a b) ≡ true
  pub bounded : (a b : ℕ) → k.is_value a ≡ true → k.is_value b ≡ true → k.joined a b ≤ a + b
  pub assoc : (a b c : ℕ) → k.is_value a ≡ true → k.is_value b ≡ true → k.is_value c ≡ true → k.joined (k.joined a b) c ≡ k.joined a (k.joined b c)
  pub mono_left : (a b c : ℕ) → k.is_value a ≡ true → k.is_value b ≡ true → k.is_value c ≡ true → a ≤ b → k.joined a c ≤ k.joined b c
  pub mono_right : (a b c : ℕ) → k.is_value a ≡ true → k.is_value b ≡ true → k.is_value c ≡ true → a ≤ b → k.joined c a ≤ k.joined c b
  pub strict : k.cancels ≡ true → (a b c : ℕ) → k.is_value a ≡ true → k.is_value b ≡ true → k.is_value c ≡ true → a < b → k.joined a c < k.joined b c
  pub passage_limit : k.passage_ceiling ≤ 1000000
  pub forecast_limit : k.forecast_ceiling ≤ 1000000000

-- letters L, S and W
abbrev pub sum : Kind
sum = record {
  is_letter = λ letter. (letter == 0x4C) || (letter == 0x53 || letter == 0x57);
  is_value = λ _. true;
  joined = λ a b. a + b;
  passage_ceiling = 1000000;
  forecast_ceiling = 1000000000;
  cancels = true;
}

-- letter G
abbrev pub worst : Kind
worst = record {
  is_letter = λ letter. (letter == 0x47);
  is_value = λ n. nat_le n 15;
  joined = λ a b. max a b;
  passage_ceiling = 15;
  forecast_ceiling = 15;
  cancels = false;
}
