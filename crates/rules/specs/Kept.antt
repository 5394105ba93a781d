-- What is kept of the words of a trace, and that the rules need no more: it is why the contracts may speak of timestamps.
use Rattle.std.specs.Prelude.{ℕ, ◌+◌, ◌≡◌, Bool, List, [], ◌∷◌}
use Rattle.command.specs.Pairs.{desl}
use Rattle.config.specs.declared.Timing.{Timing}
use Rattle.rules.specs.History.{idle, powered_down, exiting, Phase, pair, between, nothing, past_from}
use Rattle.rules.specs.Rules.{breach_at}
use Rattle.stamps.specs.Stamps.{next_stamps, next_met, start, asleep, waking}
use Rattle.rules.specs.Breaches.{word_breach}
use Rattle.stamps.specs.declared.Kept.{Kept}

-- what the next word meets, as one word
abbrev pub met_of : Phase → ℕ
met_of (pair first) = first
met_of (between idle) = desl
met_of (between powered_down) = asleep
met_of (between exiting) = waking

-- word by word, with four banks (true) or eight
abbrev pub kept_from : Bool → Kept → List ℕ → Kept
kept_from four k [] = k
kept_from four k (w ∷ ws) =
    kept_from four
    (record { clock = k.clock + 1; met = next_met k.met w; stamps = next_stamps four k.stamps k.clock k.met w }) ws

-- from power-up on
abbrev pub kept : Bool → List ℕ → Kept
kept four ws = kept_from four start ws

-- the theorem that joins the tests to the published rules
pub record Enough : Type 0 where
  -- at any word behind any others, the tests of what is kept find the breach that the published rules find in the whole past
  pub breach : (t : Timing) (ws : List ℕ) (w : ℕ)
      → let k = kept t.four ws in word_breach t k.stamps k.clock k.met w ≡ breach_at t (past_from nothing ws) w
  -- what is kept as one word says what the next word meets
  pub meets : (four : Bool) (ws : List ℕ) → (kept four ws).met ≡ met_of (past_from nothing ws).phase
