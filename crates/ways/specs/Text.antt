-- What is written to a text. Assumes nothing.
--   letter_text b        a letter as itself where it is visible, else `#` and its number
--   written p            the bytes of one part
--   written_all ps       the bytes of all parts, in their order
--   Grown a b bs         b is the text a with bs behind it, and has no less room
--   Lacks a bs           a has no room for bs behind it
--   Adds a b bs r        by r, bs were added to a, which gave b, or a lacked room for them
use Rattle.std.specs.Prelude.{◌≡◌, ℕ, ◌+◌, ◌<◌, ◌≤◌, Bool, cond, ◌&&◌, List, [], ◌∷◌, ◌++◌, length, vec_items, vec_len, vec_capacity, decimal, Result, Vec, MatchResult, nat_le}
use Rattle.std.specs.List.{flat_map}
use Rattle.ways.specs.declared.text.Part.{Part}
use Rattle.ways.specs.declared.text.Part.TheVariants.{Text, Number, Letter}

abbrev pub visible : ℕ → Bool
visible b = nat_le 0x21 b && nat_le b 0x7E

abbrev pub letter_text : ℕ → List ℕ
letter_text b = cond (visible b) (b ∷ []) (0x23 ∷ decimal b)

abbrev pub written : Part → List ℕ
written (Text bytes) = bytes.now
written (Number n) = decimal n
written (Letter b) = letter_text b

abbrev pub written_all : List Part → List ℕ
written_all ps = flat_map written ps

module _ {Z : Type 0} where
  pub record Grown (a b : Vec ℕ Z) (bs : List ℕ) : Type 0 where
    pub bytes : vec_items b ≡ vec_items a ++ bs
    pub len : vec_len b ≡ vec_len a + length bs
    pub room : vec_capacity a ≤ vec_capacity b

  pub record Lacks (a : Vec ℕ Z) (bs : List ℕ) : Type 0 where
    pub full : vec_capacity a < vec_len a + length bs

  abbrev pub Adds : {T E : Type 0} → Vec ℕ Z → Vec ℕ Z → List ℕ → Result T E → Type 0
  Adds a b bs r = MatchResult r (λ _. Grown a b bs) (λ _. Lacks a bs)
