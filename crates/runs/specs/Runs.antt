-- Runs of words that agree in their upper bits.
use Rattle.std.specs.Prelude.{ℕ, zero, suc, ◌+◌, ◌-◌, ◌*◌, ◌/◌, ◌^◌, min, List, [], ◌∷◌, Bool, cond, length, get_or, drop, eqb, leb}

-- the word is `top` without its `shift` lowest bits
abbrev pub agrees : ℕ → ℕ → ℕ → Bool
agrees shift top w = eqb (w / 2 ^ shift) top

-- how many words that agree lead a list
unfoldable pub leading : ℕ → ℕ → List ℕ → ℕ
leading shift top [] = 0
leading shift top (w ∷ ws) = cond (agrees shift top w) (suc (leading shift top ws)) 0

-- where the run from an index on ends: the first index from there on that is not before `end`, has no word, or has one that does not agree
abbrev pub run_end : ℕ → ℕ → ℕ → List ℕ → ℕ → ℕ
run_end shift top end words from = from + min (end - from) (leading shift top (drop from words))

-- a bit for each of n words from an index on that does not agree, the lowest for the first of them
unfoldable pub marks : ℕ → ℕ → List ℕ → ℕ → ℕ → ℕ
marks shift top words from zero = 0
marks shift top words from (suc n) = marks shift top words from n + cond (agrees shift top (get_or words (from + n) 0)) 0 1 * 2 ^ n

-- the same of 58 words where there are so many from the index on, and otherwise 0
abbrev pub marks_from : ℕ → ℕ → List ℕ → ℕ → ℕ
marks_from shift top words from = cond (leb (from + 58) (length words)) (marks shift top words from 58) 0
