-- Words in bytes, the lowest byte first.
use Rattle.std.specs.Prelude.{ℕ, ◌+◌, ◌-◌, ◌*◌, ◌/◌, ◌%◌, ◌^◌, ◌<◌, ◌≡◌, cond, ◌&&◌, List, [], ◌∷◌, length, get_or, ltb}

-- the word of four bytes
abbrev pub word_by : ℕ → ℕ → ℕ → ℕ → ℕ
word_by a b c d = a + b * 256 + c * 65536 + d * 16777216

-- the words of four bytes each; fewer than four at the end are no word
abbrev pub words_of : List ℕ → List ℕ
words_of [] = []
words_of (a ∷ []) = []
words_of (a ∷ b ∷ []) = []
words_of (a ∷ b ∷ c ∷ []) = []
words_of (a ∷ b ∷ c ∷ d ∷ rest) = word_by a b c d ∷ words_of rest

-- the word at an index, counted in words; 0 past the last whole word
abbrev pub word_at : List ℕ → ℕ → ℕ
word_at bytes i =
    cond (ltb i (length bytes / 4))
    (word_by (get_or bytes (4 * i) 0) (get_or bytes (4 * i + 1) 0) (get_or bytes (4 * i + 2) 0) (get_or bytes (4 * i + 3) 0))
    0

-- the word before an index and, from bit 32 on, the one at the index; 0 where they are not both there
abbrev pub pair_to : List ℕ → ℕ → ℕ
pair_to bytes i = cond (ltb 0 i && ltb i (length bytes / 4)) (word_at bytes (i - 1) + word_at bytes i * 2 ^ 32) 0

-- the number is that and, since a byte is below 256, each of the two words can be told from it
pub record PairTo (bytes : List ℕ) (i n : ℕ) : Type 0 where
  pub number : n ≡ pair_to bytes i
  pub first : 0 < i → i < length bytes / 4 → n % 2 ^ 32 ≡ word_at bytes (i - 1)
  pub second : 0 < i → i < length bytes / 4 → n / 2 ^ 32 ≡ word_at bytes i
