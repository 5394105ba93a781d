-- Traces written as pairs at their clocks, for cases and for wrong programs on sheet E.
use Rattle.std.specs.Prelude.{ℕ, ◌+◌, ◌-◌, false, List, [], ◌∷◌, ◌++◌, replicate}
use Rattle.command.specs.Pairs.{desl}
use Rattle.command.specs.declared.operation.Request.{Request}

-- a pair at a clock
pub record At : Type 0 where
  pub clock : ℕ
  pub first : ℕ
  pub second : ℕ

-- two words at a clock and the next
abbrev pub pair : ℕ → ℕ → ℕ → At
pair k f s = record { clock = k; first = f; second = s }

-- the words from a clock on: the pairs at their clocks, DESL in the gaps, and some DESL behind
abbrev pub words : ℕ → List At → ℕ → List ℕ
words k [] more = replicate more desl
words k (p ∷ ps) more = replicate (p.clock - k) desl ++ (p.first ∷ p.second ∷ words (p.clock + 2) ps more)

-- a read at clock k, with b on BA0 to BA2, A0 to A13 low, column 0
abbrev pub read_at : ℕ → ℕ → At
read_at k b = pair k (0xA0000 + b) 0xC0000

-- a write so, with four words in each lane
abbrev pub write_at : ℕ → ℕ → At
write_at k b = pair k (0x80000 + b) 0xD1000

-- a regular mode at clock k
abbrev pub mode_at : ℕ → At
mode_at k = pair k 0xA0000 0x80042

-- a refresh at clock k
abbrev pub refresh_at : ℕ → At
refresh_at k = pair k 0x80000 0x80000

-- the start-up of case a (RULES 8.5)
abbrev pub start_up_pairs : List At
start_up_pairs = pair 0 0xA0000 0x84000 ∷ mode_at 7 ∷ refresh_at 14 ∷ refresh_at 32 ∷ []

-- the pins of bank 1
abbrev pub bank1 : ℕ
bank1 = 0x4000

-- a read of bank 0, row and column 0
abbrev pub bank0_read : Request
bank0_read = record { write = false; bank = 0; row = 0; column = 0; lower = 0; upper = 0 }
