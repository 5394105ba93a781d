-- The word at an index is that place of the list of words.
use Prim.Native.Nat.{ℕ, zero, suc, ◌+◌, ◌-◌, ◌*◌, ◌/◌, ◌%◌, ◌^◌, ◌≤◌, ◌<◌}
use mathlib.Core.Path.{◌≡◌, refl, sym, ◌∙◌, ap, ap₂}
use mathlib.Core.Bool.{Bool, true, false, cond, ◌&&◌}
use mathlib.Core.List.{List, [], ◌∷◌}
use native.Mathlib.Omega.{arith}
use borrow.Author.Tests.{lt-ltb, ltb-true}
use lib.Dec.{ltb}
use lib.ListN.{length, get_or, take, drop, length-take, length-drop}
use lib.Seq.{get_or-take, get_or-drop, drop-drop}
use Rattle.std.specs.Int.{w32, from_le_bytes}
use Rattle.std.specs.Simd.{first_chunks}
use Rattle.words.specs.Words.{word_by, words_of, word_at, pair_to, PairTo}

pub words-length : (bytes : List ℕ) → length (words_of bytes) ≡ length bytes / 4
words-length [] = refl
words-length (a ∷ []) = refl
words-length (a ∷ b ∷ []) = refl
words-length (a ∷ b ∷ c ∷ []) = refl
words-length (a ∷ b ∷ c ∷ d ∷ rest) =
    let h = words-length rest in
    omega arith

place : (bytes : List ℕ) (i j : ℕ) → i ≡ j → get_or bytes i 0 ≡ get_or bytes j 0
place bytes i j e = ap (λ k. get_or bytes k 0) e

listed : (bytes : List ℕ) (i : ℕ) → i < length bytes / 4
    → get_or (words_of bytes) i 0
    ≡ word_by (get_or bytes (4 * i) 0) (get_or bytes (4 * i + 1) 0) (get_or bytes (4 * i + 2) 0) (get_or bytes (4 * i + 3) 0)
listed [] i h = absurd (omega arith)
listed (a ∷ []) i h = absurd (omega arith)
listed (a ∷ b ∷ []) i h = absurd (omega arith)
listed (a ∷ b ∷ c ∷ []) i h = absurd (omega arith)
listed (a ∷ b ∷ c ∷ d ∷ rest) zero h = refl
listed (a ∷ b ∷ c ∷ d ∷ rest) (suc i) h =
    let bytes = a ∷ b ∷ c ∷ d ∷ rest in
    listed rest i (omega arith)
    ∙ rw (
      place bytes (4 * suc i) (suc (suc (suc (suc (4 * i))))) (omega arith),
      place bytes (4 * suc i + 1) (suc (suc (suc (suc (4 * i + 1))))) (omega arith),
      place bytes (4 * suc i + 2) (suc (suc (suc (suc (4 * i + 2))))) (omega arith),
      place bytes (4 * suc i + 3) (suc (suc (suc (suc (4 * i + 3))))) (omega arith),
    )

pub word-listed : (bytes : List ℕ) (i : ℕ) → i < length bytes / 4 → word_at bytes i ≡ get_or (words_of bytes) i 0
word-listed bytes i h = rw (lt-ltb i (length bytes / 4) h) (sym (listed bytes i h))

-- one of the arrays of four bytes
chunk : (k : ℕ) (bytes : List ℕ) (i : ℕ) (d : List ℕ) → i < k → get_or (first_chunks 4 k bytes) i d ≡ take 4 (drop (4 * i) bytes)
chunk zero bytes i d h = absurd (omega arith)
chunk (suc k) bytes zero d h = refl
chunk (suc k) bytes (suc i) d h =
    let at : 4 + 4 * i ≡ 4 * suc i = omega arith in
    rw (← at, ← drop-drop (4 * i) 4 bytes) (chunk k (drop 4 bytes) i d (omega arith))

-- is the word there
pub chunk-word : (bytes : List ℕ) (i : ℕ) (d : List ℕ) {chunks : List (List ℕ)} → i < length bytes / 4
    → chunks ≡ first_chunks 4 (length bytes / 4) bytes → from_le_bytes w32 (get_or chunks i d) ≡ word_at bytes i
chunk-word bytes i d h is =
    let part = drop (4 * i) bytes in
    let at : (j : ℕ) → j < 4 → get_or (take 4 part) j 0 ≡ get_or bytes (4 * i + j) 0 =
    λ j small. get_or-take 4 part j 0 small ∙ get_or-drop (4 * i) bytes j 0 in
    let start : get_or (take 4 part) 0 0 ≡ get_or bytes (4 * i) 0 = at 0 (omega arith) ∙ place bytes (4 * i + 0) (4 * i) (omega arith) in
    rw
    (is, chunk (length bytes / 4) bytes i d h, lt-ltb i (length bytes / 4) h)
    (rw (start, at 1 (omega arith), at 2 (omega arith), at 3 (omega arith)))

-- the two words of a pair, where they are both there, and 0 where they are not
pub pair-there : (bytes : List ℕ) (i : ℕ) → 0 < i → i < length bytes / 4
    → pair_to bytes i ≡ word_at bytes (i - 1) + word_at bytes i * 2 ^ 32
pair-there bytes i pos h =
    ap₂ (λ b c. cond (b && c) (word_at bytes (i - 1) + word_at bytes i * 2 ^ 32) 0) (lt-ltb 0 i pos) (lt-ltb i (length bytes / 4) h)

pub pair-none : (bytes : List ℕ) (i : ℕ) → (0 < i → i < length bytes / 4 → ⊥) → pair_to bytes i ≡ 0
pair-none bytes i none = by (ltb 0 i) refl (ltb i (length bytes / 4)) refl
  where
    by : (b : Bool) → ltb 0 i ≡ b → (c : Bool) → ltb i (length bytes / 4) ≡ c
        → cond (b && c) (word_at bytes (i - 1) + word_at bytes i * 2 ^ 32) 0 ≡ 0
    by true e true f = absurd (none (ltb-true 0 i e) (ltb-true i (length bytes / 4) f))
    by true e false f = refl
    by false e c f = refl

pub pair-listed : (bytes : List ℕ) (i : ℕ) {n : ℕ} → PairTo bytes (i + 1) n → i + 1 < length bytes / 4
    → (n % 2 ^ 32 ≡ get_or (words_of bytes) i 0) × (n / 2 ^ 32 ≡ get_or (words_of bytes) (i + 1) 0)
pair-listed bytes i pair h = (
  pair.first (omega arith) h ∙ ap (word_at bytes) (omega arith) ∙ word-listed bytes i (omega arith),
  pair.second (omega arith) h ∙ word-listed bytes (i + 1) h,
)

-- the words of a part of the bytes
pub part-listed : (bytes : List ℕ) (from n i : ℕ) → i < n → from + n ≤ length bytes / 4
    → get_or (words_of (take (4 * n) (drop (4 * from) bytes))) i 0 ≡ get_or (words_of bytes) (from + i) 0
part-listed bytes from n i h fits =
    let part = take (4 * n) (drop (4 * from) bytes) in
    let size : i < length part / 4 = simp (length-take, length-drop) (omega arith) in
    let at : (j : ℕ) → j < 4 → get_or part (4 * i + j) 0 ≡ get_or bytes (4 * (from + i) + j) 0 =
    λ j small. get_or-take (4 * n) (drop (4 * from) bytes) (4 * i + j) 0 (omega arith)
    ∙ get_or-drop (4 * from) bytes (4 * i + j) 0
    ∙ place bytes (4 * from + (4 * i + j)) (4 * (from + i) + j) (omega arith) in
    let start : get_or part (4 * i) 0 ≡ get_or bytes (4 * (from + i)) 0 =
    place part (4 * i) (4 * i + 0) (omega arith) ∙ at 0 (omega arith) ∙ place bytes (4 * (from + i) + 0) (4 * (from + i)) (omega arith) in
    listed part i size
    ∙ rw (start, at 1 (omega arith), at 2 (omega arith), at 3 (omega arith)) (sym (listed bytes (from + i) (omega arith)))
