-- What the loop over the turns keeps: with those that are left, the counts come to those of all.
use Prim.Native.Nat.{ℕ, ◌+◌, ◌≤◌, ◌<◌}
use mathlib.Core.Path.{◌≡◌, refl, sym, ◌∙◌, ap, subst⁻¹}
use mathlib.Core.Bool.{not}
use mathlib.Core.List.{List, [], ◌∷◌}
use native.Mathlib.Omega.{arith}
use lib.ListN.{length, drop}
use Rattle.command.proofs.Levels.{level-bound}
use Rattle.config.specs.declared.Timing.{Timing}
use Rattle.reading.specs.Reading.{operation_of}
use Rattle.reading.proofs.Data.{burst_bound}
use Rattle.rules.specs.Rules.{was_read, was_write, was_mode, was_refresh}
use Rattle.rules.specs.Turns.{Turn, closed, single, opens_pair, turns_from, turns_of, words_in_all, NoneOpen}
use Rattle.turns.specs.EveryTurn.{met_at}
use Rattle.turns.proofs.Answered.{Answered}
use Rattle.counts.specs.Counts.{no_counts}
use Rattle.counts.specs.OneTurn.{with_turn, with_turns, Below}
use Rattle.counts.specs.declared.CommandCounts.{CommandCounts}

-- a turn adds no more to a count than the words that it takes: to the clocks of data at most two for the two words of a pair
below-turn : (t : Timing) (at : ℕ) (c : CommandCounts) (x : Turn) → t.bl ≤ 4 → Below (at + 1) c
    → Below (at + length (words_in_all (x ∷ [])) + 1) (with_turn t c x)
below-turn t at c (closed p) bl b =
    record {
      reads = omega (arith, level-bound (was_read p));
      writes = omega (arith, level-bound (was_write p));
      modes = omega (arith, level-bound (was_mode p));
      refreshes = omega (arith, level-bound (was_refresh p));
      desls = omega arith;
      clocks = omega (arith, burst_bound t (operation_of t p.first p.second));
    }
below-turn t at c (single k w) bl b =
    record {
      reads = omega arith;
      writes = omega arith;
      modes = omega arith;
      refreshes = omega arith;
      desls = omega (arith, level-bound (not (opens_pair w)));
      clocks = omega arith;
    }

-- what holds at an index where a turn begins: no pair is open before the word there, and with the turns from there on the counts come to
-- those of the trace
pub record Tallying (t : Timing) (words : List ℕ) (at : ℕ) (counts : CommandCounts) : Type 0 where
  pub bl : t.bl ≤ 4
  pub inside : at ≤ length words
  pub none_open : at < length words → NoneOpen (met_at words at)
  pub below : Below (at + 1) counts
  pub left : with_turns t counts (turns_from at (drop at words)) ≡ with_turns t no_counts (turns_of words)

pub begins : (t : Timing) (words : List ℕ) → t.bl ≤ 4 → Tallying t words 0 no_counts
begins t words bl =
    record {
      bl = bl;
      inside = omega arith;
      none_open = λ h. tt;
      below = omega arith;
      left = refl;
    }

module _ {t : Timing} {words : List ℕ} {at : ℕ} {counts : CommandCounts} (y : Tallying t words at counts) where
  pub goes_on : {x : Turn} {next : ℕ} {r : CommandCounts} → Answered words at (record { turn = x ∷ []; next = next })
      → r ≡ with_turn t counts x → Tallying t words next r
  goes_on {x} w e =
      subst⁻¹ (Tallying t words _) e
      (record {
        bl = y.bl;
        inside = w.inside;
        none_open = λ h. w.none_open (y.none_open (let size = w.size in omega arith)) h;
        below = rw w.size (below-turn t at counts x y.bl y.below);
        left = ap (with_turns t counts) (sym w.rest) ∙ y.left;
      })
