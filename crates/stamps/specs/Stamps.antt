-- What is kept of a past: timestamps. A timestamp is the clock of an event's closing word, t + 1; 0 is never, since no pair closes at
-- clock 0.
use Rattle.std.specs.Prelude.{ℕ, Bool, cond, not, ◌&&◌, List, [], ◌∷◌, get_or, set, eqb}
use Rattle.command.specs.Pins.{high}
use Rattle.command.specs.Pairs.{selected, rda, lal, desl}
use Rattle.command.specs.Address.{bank_of}
use Rattle.stamps.specs.declared.Timestamps.{Timestamps}
use Rattle.stamps.specs.declared.Kept.{Kept}

-- what is kept once a read or write has closed at k
abbrev pub with_access : Timestamps → ℕ → Bool → ℕ → Timestamps
with_access s k read bank =
    record {
      extended = s.extended;
      regular = s.regular;
      mode = s.mode;
      read = cond read k s.read;
      write = cond read s.write k;
      banks = set s.banks bank k;
      refs = s.refs;
    }

-- what is kept once a mode has: the first extended MRS, the last regular one
abbrev pub with_mode : Timestamps → ℕ → Bool → Timestamps
with_mode s k extended =
    record {
      extended = cond (extended && eqb s.extended 0) k s.extended;
      regular = cond extended s.regular k;
      mode = k;
      read = s.read;
      write = s.write;
      banks = s.banks;
      refs = s.refs;
    }

-- the newest in front, the eighth drops out
abbrev pub shifted : ℕ → List ℕ → List ℕ
shifted k r =
    k
    ∷ get_or r 0 0
    ∷ get_or r 1 0
    ∷ get_or r 2 0
    ∷ get_or r 3 0
    ∷ get_or r 4 0
    ∷ get_or r 5 0
    ∷ get_or r 6 0
    ∷ []

-- what is kept once a refresh has
abbrev pub with_refresh : Timestamps → ℕ → Timestamps
with_refresh s k =
    record {
      extended = s.extended;
      regular = s.regular;
      mode = s.mode;
      read = s.read;
      write = s.write;
      banks = s.banks;
      refs = shifted k s.refs;
    }

-- what is kept once any pair has closed at k, with four banks (true) or eight
abbrev pub remembered : Bool → Timestamps → ℕ → ℕ → ℕ → Timestamps
remembered four s k first second =
    cond (lal second) (with_access s k (rda first) (bank_of four first))
    (cond (rda first) (with_mode s k (high 14 second)) (with_refresh s k))

-- what is kept after any word, with four banks (true) or eight
abbrev pub next_stamps : Bool → Timestamps → ℕ → ℕ → ℕ → Timestamps
next_stamps four s k first w = cond (selected first) (remembered four s k first w) s

-- what the next word meets is kept as one word (RULES 2.8): the first word of the open pair, DESL for nothing, or this one where the memory
-- is asleep
abbrev pub asleep : ℕ
asleep = 0x40000

-- where the second of the two wake-up words is due, what the next word meets is kept as this one
abbrev pub waking : ℕ
waking = 0xE0000

-- the memory is asleep, by what is met as one word: with CS high no pair is open, and PD is low
abbrev pub is_powered_down : ℕ → Bool
is_powered_down first = high 18 first && not (high 19 first)

-- the second wake-up word is due, by what is met as one word: CS, PD and FN are high
abbrev pub is_exiting : ℕ → Bool
is_exiting first = high 18 first && (high 19 first && high 17 first)

-- what the word behind w meets, as one word, where w met `first`
abbrev pub next_met : ℕ → ℕ → ℕ
next_met first w =
    cond (selected first) desl
    (cond (high 19 w) (cond (selected w) w (cond (is_powered_down first) waking desl)) asleep)

-- nothing is remembered
abbrev pub never : Timestamps
never =
    let none : List ℕ = 0 ∷ 0 ∷ 0 ∷ 0 ∷ 0 ∷ 0 ∷ 0 ∷ 0 ∷ [] in
    record { extended = 0; regular = 0; mode = 0; read = 0; write = 0; banks = none; refs = none }

-- before the first word: clock 0, which meets nothing, and nothing is remembered
abbrev pub start : Kept
start = record { clock = 0; met = desl; stamps = never }
