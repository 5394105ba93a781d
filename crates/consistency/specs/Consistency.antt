-- Whether a state's clock agrees with what the state remembers (RULES 6.19).
use Rattle.std.specs.Prelude.{ℕ, Bool, cond, ◌&&◌, ◌||◌, List, get_or, eqb, leb, ltb}
use Rattle.basics.specs.Numbers.{limit}
use Rattle.command.specs.Pairs.{selected}
use Rattle.stamps.specs.Stamps.{is_powered_down, is_exiting}
use Rattle.stamps.specs.declared.Timestamps.{Timestamps}

-- an event, if it is remembered, is before the clock
abbrev pub before : ℕ → ℕ → Bool
before k c = eqb c 0 || ltb c k

-- each of eight events, if it is remembered, is before the clock
abbrev pub eight_before : ℕ → List ℕ → Bool
eight_before k cs =
    before k (get_or cs 0 0)
    && before k (get_or cs 1 0)
    && before k (get_or cs 2 0)
    && before k (get_or cs 3 0)
    && before k (get_or cs 4 0)
    && before k (get_or cs 5 0)
    && before k (get_or cs 6 0)
    && before k (get_or cs 7 0)

-- every event that is remembered lies before clock k
abbrev pub stamps_before : ℕ → Timestamps → Bool
stamps_before k s =
    before k s.extended
    && before k s.regular
    && before k s.mode
    && before k s.read
    && before k s.write
    && eight_before k s.banks
    && eight_before k s.refs

-- how many words must stand before one that meets this: the first of an open pair, a low one, a low one and the first wake-up word
abbrev pub words_before : ℕ → ℕ
words_before first = cond (selected first) 1 (cond (is_powered_down first) 1 (cond (is_exiting first) 2 0))

-- no refusal 19 (RULES 6.19): the clock is at most 16,777,216, every event that is remembered is before it, and there are as many
-- words before it as what the next one meets asks for
abbrev pub clock_fits : ℕ → ℕ → Timestamps → Bool
clock_fits clock first s = leb clock limit && stamps_before clock s && leb (words_before first) clock
