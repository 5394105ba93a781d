-- Which words open a pair, and what the pair of two words is (RULES 2.2).
use Rattle.std.specs.Prelude.{ℕ, Bool, not, ◌&&◌}
use Rattle.command.specs.Pins.{high}

-- CS is low: where no pair is open, a word with PD high then opens one (RULES 2.8)
abbrev pub selected : ℕ → Bool
selected w = not (high 18 w)

-- FN is high: the first word of a pair is an RDA, and otherwise a WRA
abbrev pub rda : ℕ → Bool
rda first = high 17 first

-- CS is high: the closing word is a LAL, and otherwise an MRS after RDA and a REF after WRA
abbrev pub lal : ℕ → Bool
lal second = high 18 second

-- RDA and LAL
abbrev pub is_read : ℕ → ℕ → Bool
is_read first second = rda first && lal second

-- WRA and LAL
abbrev pub is_write : ℕ → ℕ → Bool
is_write first second = not (rda first) && lal second

-- RDA and MRS
abbrev pub is_mode : ℕ → ℕ → Bool
is_mode first second = rda first && not (lal second)

-- WRA and REF
abbrev pub is_refresh : ℕ → ℕ → Bool
is_refresh first second = not (rda first) && not (lal second)

-- DESL as it is written (RULES 2.7)
abbrev pub desl : ℕ
desl = 0xC0000
