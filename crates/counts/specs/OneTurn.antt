-- For private functions alone: the counts turn by turn.
use Rattle.std.specs.Prelude.{ℕ, ◌+◌, ◌<◌, not, List, [], ◌∷◌}
use Rattle.command.specs.Pins.{level}
use Rattle.command.specs.Pairs.{is_read, is_write, is_mode, is_refresh}
use Rattle.config.specs.declared.Timing.{Timing}
use Rattle.reading.specs.Reading.{operation_of, burst_of}
use Rattle.rules.specs.Turns.{Turn, closed, single, opens_pair}
use Rattle.counts.specs.declared.CommandCounts.{CommandCounts}

-- with one more closed pair, of the kind that its two words make, and with its data
abbrev pub with_pair : Timing → CommandCounts → ℕ → ℕ → CommandCounts
with_pair t c first second =
    record {
      reads = level (is_read first second) + c.reads;
      writes = level (is_write first second) + c.writes;
      modes = level (is_mode first second) + c.modes;
      refreshes = level (is_refresh first second) + c.refreshes;
      desls = c.desls;
      clocks = record { 0 = burst_of t (operation_of t first second) + c.clocks.0 };
    }

-- with one more single word, which counts as DESL unless it opens a pair
abbrev pub with_single : CommandCounts → ℕ → CommandCounts
with_single c w =
    record {
      reads = c.reads;
      writes = c.writes;
      modes = c.modes;
      refreshes = c.refreshes;
      desls = level (not (opens_pair w)) + c.desls;
      clocks = c.clocks;
    }

-- with one more turn
abbrev pub with_turn : Timing → CommandCounts → Turn → CommandCounts
with_turn t c (closed p) = with_pair t c p.first p.second
with_turn t c (single k w) = with_single c w

-- with all these turns, one after the other
abbrev pub with_turns : Timing → CommandCounts → List Turn → CommandCounts
with_turns t c [] = c
with_turns t c (x ∷ xs) = with_turns t (with_turn t c x) xs

-- each count is below a number
pub record Below (n : ℕ) (c : CommandCounts) : Type 0 where
  pub reads : c.reads < n
  pub writes : c.writes < n
  pub modes : c.modes < n
  pub refreshes : c.refreshes < n
  pub desls : c.desls < n
  pub clocks : c.clocks.0 < n
