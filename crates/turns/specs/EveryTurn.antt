-- What is proved of every turn of a trace (RULES 9.2).
use Rattle.std.specs.Prelude.{ℕ, zero, suc, ◌+◌, ◌<◌, ◌≡◌, true, List, [], ◌∷◌, ◌++◌, length, take}
use Rattle.rules.specs.History.{Phase, nothing, past_from}
use Rattle.rules.specs.Turns.{Turn, closed, single, opens_pair, turns_of, pairs_in, pairs_of, NoneOpen}
use Rattle.turns.specs.OneTurn.{turn_at}

-- the turns that are taken from an index on by a loop that asks `turn` so many times, each time where the turn before it ended
abbrev pub taken_from : List ℕ → ℕ → ℕ → List Turn
taken_from words zero at = []
taken_from words (suc n) at = (turn_at words at).turn ++ taken_from words n (turn_at words at).next

-- what the word at an index meets
abbrev pub met_at : List ℕ → ℕ → Phase
met_at words at = (past_from nothing (take at words)).phase

-- a read, a word with PD low, DESL, and the first word of a pair that is not closed
abbrev pub sample : List ℕ
sample = 0xA0000 ∷ 0xC0000 ∷ 0x40000 ∷ 0xC0000 ∷ 0xA0000 ∷ []

-- its turns
abbrev pub sample_turns : List Turn
sample_turns =
    closed (record { start = 0; first = 0xA0000; second = 0xC0000 }) ∷ single 2 0x40000 ∷ single 3 0xC0000 ∷ single 4 0xA0000 ∷ []

-- the theorem, for every trace
pub record EveryTurn : Type 0 where
  -- there are turns of each sort
  pub some : taken_from sample 5 0 ≡ sample_turns
  -- the turns that a loop takes from the first word on are those of the trace. So they cover it, each word in one turn, in order; each
  -- starts where no pair is open; and those of two words are the closed pairs of the history (`Turns`). As many turns as there are words
  -- are enough, and however many more are asked for, nothing is taken twice.
  pub taken : (words : List ℕ) (more : ℕ) → taken_from words (length words + more) 0 ≡ turns_of words
  -- turn by turn: where no pair is open before a turn, none is open behind it, unless the trace ends there;
  pub none_open : (words : List ℕ) (at : ℕ) → NoneOpen (met_at words at) → (turn_at words at).next < length words
      → NoneOpen (met_at words (turn_at words at).next)
  -- the pair that it takes, if it takes one, and no other is closed by its words;
  pub closed-by : (words : List ℕ) (at : ℕ) → NoneOpen (met_at words at)
      → pairs_of (take (turn_at words at).next words) ≡ pairs_in (turn_at words at).turn ++ pairs_of (take at words)
  -- and a single word that opens a pair is the last of the trace
  pub unclosed : (words : List ℕ) (at w : ℕ) → (turn_at words at).turn ≡ single at w ∷ [] → opens_pair w ≡ true
      → (turn_at words at).next ≡ length words
