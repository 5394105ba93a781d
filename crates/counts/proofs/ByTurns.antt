-- Turn by turn the counts come to those of the history: a turn of two words adds its pair, and a single word adds a DESL or, where it opens
-- a pair, nothing.
use Prim.Native.Nat.{ℕ, ◌+◌}
use mathlib.Core.Path.{◌≡◌, refl, sym, ◌∙◌, ap}
use mathlib.Core.Bool.{Bool, true, false, true≢false, cond, not, ◌&&◌, ◌||◌}
use mathlib.Core.List.{List, [], ◌∷◌}
use native.Mathlib.Omega.{arith}
use Rattle.command.specs.Pins.{high, level}
use Rattle.command.specs.Pairs.{selected}
use Rattle.config.specs.declared.Timing.{Timing}
use Rattle.rules.specs.History.{ClosedPair, Rest, idle, powered_down, pair, between, after_desl, extend, past_from}
use Rattle.rules.specs.Rules.{was_read, was_write, was_mode, was_refresh}
use Rattle.rules.specs.Turns.{Turn, opens_pair, turns_of, pairs_of}
use Rattle.rules.proofs.Turns.{Turned, ended, last, paired, alone, turned, rest_at, rest_after, pair_extends, single_extends}
use Rattle.counts.specs.Counts.{how_many, desl_at, desls_from, data_clocks, counts_of, no_counts}
use Rattle.counts.specs.OneTurn.{with_turns}
use Rattle.counts.specs.declared.CommandCounts.{CommandCounts}

-- the counts of a history and of so many DESL words
abbrev counts_by : Timing → List ClosedPair → ℕ → CommandCounts
counts_by t ps n =
    record {
      reads = how_many was_read ps;
      writes = how_many was_write ps;
      modes = how_many was_mode ps;
      refreshes = how_many was_refresh ps;
      desls = n;
      clocks = record { 0 = data_clocks t ps };
    }

-- neither of the two words of a pair is a DESL
none-paired : (k w v : ℕ) (r : Rest) (ps : List ClosedPair) (ws : List ℕ) → opens_pair w ≡ true
    → desls_from (rest_at k r ps) (w ∷ v ∷ ws) ≡ desls_from (extend (extend (rest_at k r ps) w) v) ws
none-paired k w v r ps ws e = by (high 19 w) (selected w) e (desls_from (extend (extend (rest_at k r ps) w) v) ws)
  where
    by : (h s : Bool) → (h && s) ≡ true → (n : ℕ)
        → level (not h || not s) + (desl_at (cond h (cond s (pair w) (between (after_desl r))) (between powered_down)) v + n) ≡ n
    by true true e n = omega arith
    by true false e n = absurd (true≢false (sym e))
    by false s e n = absurd (true≢false (sym e))

-- a word alone is one unless it opens a pair
single-desl : (r : Rest) (w : ℕ) → desl_at (between r) w ≡ level (not (opens_pair w))
single-desl r w = by (high 19 w) (selected w)
  where
    by : (h s : Bool) → level (not h || not s) ≡ level (not (h && s))
    by true s = refl
    by false s = refl

module _ (t : Timing) where
  turns-from : {k : ℕ} {ws : List ℕ} {xs : List Turn} → Turned k ws xs → (r : Rest) (ps : List ClosedPair) (n : ℕ)
      → with_turns t (counts_by t ps n) xs ≡ counts_by t (past_from (rest_at k r ps) ws).pairs (desls_from (rest_at k r ps) ws + n)
  turns-from ended r ps n = ap (counts_by t ps) (omega arith)
  turns-from (last {w = w}) r ps n = ap (counts_by t ps) (omega (arith, single-desl r w))
  turns-from (paired {k = k} {w = w} {v = v} {ws = ws} e more) r ps n =
      turns-from more idle (record { start = k; first = w; second = v } ∷ ps) n
      ∙ ap (λ p. counts_by t (past_from p ws).pairs (desls_from p ws + n)) (sym (pair_extends k w v r ps e))
      ∙ ap (λ d. counts_by t (past_from (rest_at k r ps) (w ∷ v ∷ ws)).pairs (d + n)) (sym (none-paired k w v r ps ws e))
  turns-from (alone {k = k} {w = w} {v = v} {ws = ws} e more) r ps n =
      turns-from more (rest_after r w) ps (level (not (opens_pair w)) + n)
      ∙ ap (λ p. counts_by t (past_from p (v ∷ ws)).pairs (desls_from p (v ∷ ws) + (level (not (opens_pair w)) + n)))
      (sym (single_extends k w r ps e))
      ∙ ap (counts_by t (past_from (rest_at k r ps) (w ∷ v ∷ ws)).pairs) (omega (arith, single-desl r w))

  pub counts-by-turns : (words : List ℕ) → with_turns t no_counts (turns_of words) ≡ counts_of t words
  counts-by-turns words = turns-from (turned 0 words) idle [] 0 ∙ ap (counts_by t (pairs_of words)) (omega arith)
