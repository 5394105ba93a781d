-- One turn of a trace, and the index behind it (RULES 9.2).
use Rattle.std.specs.Prelude.{ℕ, ◌+◌, Option, Some, None, List, [], ◌∷◌, length, take, drop}
use Rattle.rules.specs.Turns.{Turn, closed, single, turns_from, words_in_all}
use Rattle.turns.specs.declared.TurnWords.{TurnWords}
use Rattle.turns.specs.declared.TurnWords.TheVariants.{Closed, Single}

-- what is taken: a turn, or none where no word is left; and the index behind its words
pub record Taken : Type 0 where
  pub turn : List Turn
  pub next : ℕ

-- the answer of `turn`, asked at an index
abbrev pub turn_outcome : ℕ → Option (TurnWords × ℕ) → Taken
turn_outcome at (Some (Closed p, next)) =
    record { turn = closed (record { start = at; first = p.first; second = p.second }) ∷ []; next = next }
turn_outcome at (Some (Single w, next)) = record { turn = single at w ∷ []; next = next }
turn_outcome at None = record { turn = []; next = at }

-- what a turn takes at an index, where no pair is open before the word there: the first of the turns from that word on
abbrev pub turn_at : List ℕ → ℕ → Taken
turn_at words at =
    let first = take 1 (turns_from at (drop at words)) in
    record { turn = first; next = at + length (words_in_all first) }
