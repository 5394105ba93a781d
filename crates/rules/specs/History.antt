-- The past of a clock, by what words and pairs are (RULES 2.2, 2.8): nothing is judged here.
use Rattle.std.specs.Prelude.{ℕ, ◌+◌, ◌-◌, cond, List, [], ◌∷◌}
use Rattle.command.specs.Pins.{high}
use Rattle.command.specs.Pairs.{selected}

-- a closed pair: its first word stands at the clock `start`, its closing word one clock later (RULES 4.0)
pub record ClosedPair : Type 0 where
  pub start : ℕ
  pub first : ℕ
  pub second : ℕ

-- where no pair is open: nothing; asleep, the word before had PD low; or the second of the two wake-up words is due
pub data Rest : Type 0 where
  idle : Rest
  powered_down : Rest
  exiting : Rest

-- what the next word meets (RULES 2.8): an open pair, by its first word, or one of these three
pub data Phase : Type 0 where
  pair : ℕ → Phase
  between : Rest → Phase

-- nothing is met, between two pairs
abbrev pub free : Phase
free = between idle

-- the clock of the next word, what it meets, and the closed pairs, newest first
pub record Past : Type 0 where
  pub clock : ℕ
  pub phase : Phase
  pub pairs : List ClosedPair

-- the past at power-up: the next word is the one at clock 0 (RULES 4.0)
abbrev pub nothing : Past
nothing = record { clock = 0; phase = free; pairs = [] }

-- behind a DESL word: after the first wake-up word the second is due (RULES 2.8)
abbrev pub after_desl : Rest → Rest
after_desl idle = idle
after_desl powered_down = exiting
after_desl exiting = idle

-- what the word behind w meets. Where a pair is open, w closes it, whatever it is (RULES 2.2); where none is, and PD is low, the other
-- pins are ignored (RULES 2.8).
abbrev pub next_phase : Phase → ℕ → Phase
next_phase (pair first) w = free
next_phase (between r) w = cond (high 19 w) (cond (selected w) (pair w) (between (after_desl r))) (between powered_down)

-- the closed pairs after w, at clock k (RULES 2.2)
abbrev pub next_pairs : Phase → ℕ → ℕ → List ClosedPair → List ClosedPair
next_pairs (pair first) k w ps = record { start = k - 1; first = first; second = w } ∷ ps
next_pairs (between r) k w ps = ps

-- one word more
abbrev pub extend : Past → ℕ → Past
extend p w =
    record {
      clock = p.clock + 1;
      phase = next_phase p.phase w;
      pairs = next_pairs p.phase p.clock w p.pairs;
    }

-- the past that words lead to
abbrev pub past_from : Past → List ℕ → Past
past_from p [] = p
past_from p (w ∷ ws) = past_from (extend p w) ws
