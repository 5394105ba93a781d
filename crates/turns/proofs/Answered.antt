-- What an answer of `turn` says, for the proof of a loop that goes by it.
use Prim.Native.Nat.{ℕ, ◌+◌, ◌≤◌, ◌<◌}
use mathlib.Core.Path.{◌≡◌, refl, sym, subst⁻¹}
use mathlib.Core.List.{List, [], ◌++◌, nil≢cons}
use native.Mathlib.Omega.{arith}
use lib.ListN.{length, drop}
use Rattle.rules.specs.Turns.{turns_from, words_in_all, NoneOpen}
use Rattle.turns.specs.OneTurn.{Taken, turn_at}
use Rattle.turns.specs.EveryTurn.{met_at}
use Rattle.turns.proofs.OneTurn.{turns-split, TurnCase, ends, closes, alone, turn_case}
use Rattle.turns.proofs.EveryTurn.{every_turn}

-- asked at an index inside a trace: how many words are taken, which turns are left, that no pair is open behind, and when none is taken
pub record Answered (words : List ℕ) (at : ℕ) (r : Taken) : Type 0 where
  pub size : r.next ≡ at + length (words_in_all r.turn)
  pub inside : r.next ≤ length words
  pub rest : turns_from at (drop at words) ≡ r.turn ++ turns_from r.next (drop r.next words)
  pub none_open : NoneOpen (met_at words at) → r.next < length words → NoneOpen (met_at words r.next)
  pub ended : r.turn ≡ [] → length words ≤ at

pub answered : (words : List ℕ) (at : ℕ) (r : Taken) → at ≤ length words → r ≡ turn_at words at → Answered words at r
answered words at r h e =
    subst⁻¹ (Answered words at) e
    (record {
      size = refl;
      inside = inside (turn_case words at);
      rest = turns-split words at;
      none_open = every_turn.none_open words at;
      ended = ended (turn_case words at);
    })
  where
    inside : {r : Taken} → TurnCase words at r → r.next ≤ length words
    inside (ends e) = h
    inside (closes l e) = omega arith
    inside (alone l e) = omega arith

    ended : {r : Taken} → TurnCase words at r → r.turn ≡ [] → length words ≤ at
    ended (ends l) e = l
    ended (closes l f) e = absurd (nil≢cons (sym e))
    ended (alone l f) e = absurd (nil≢cons (sym e))
