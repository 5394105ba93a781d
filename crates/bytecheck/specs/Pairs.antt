-- What reads and writes are skimmed by.
use Rattle.std.specs.Prelude.{ℕ, ◌+◌, ◌/◌, ◌%◌, ◌^◌, ◌≤◌, ◌<◌, max, ◌≡◌, true, false, cond, ◌&&◌, List, [], ◌∷◌, length, get_or, eqb}
use Rattle.std.specs.Int.Bits.{bit_and}
use Rattle.basics.specs.Numbers.{limit}
use Rattle.config.specs.declared.Timing.{Timing}
use Rattle.stamps.specs.declared.Timestamps.{Timestamps}
use Rattle.rules.specs.Breaches.{too_close}
use Rattle.bytecheck.specs.Quick.{Settled, InTime, idle_at}
use Rattle.stamps.specs.declared.Kept.{Kept}
use Rattle.bytecheck.specs.declared.quick.Limits.{Limits}
use Rattle.bytecheck.specs.declared.pairs.Track.{Track}

-- the least clocks from a write to the next write or read, from a read to them, and from a clock where either is allowed
abbrev pub spacings_of : Timing → List ℕ
spacings_of t = t.rbd ∷ max t.rbd (t.wrd + 1) ∷ max t.rbd (t.rwd + 1) ∷ t.rbd ∷ 0 ∷ 0 ∷ []

-- of a pair as one number, its first word below: FN, which is high in a read, and the two pins of the lower lane; all bits where no lane
-- can be reserved
abbrev pub lower_of : Timing → ℕ
lower_of t = cond (eqb t.bl 4) 0x1200000020000 0xFFFFFFFFFFFFFFFF

-- the same for the upper lane, which counts by 16 alone
abbrev pub upper_of : Timing → ℕ
upper_of t = cond (eqb t.bl 4 && eqb t.organisation 16) 0x180000020000 (lower_of t)

-- what reads and writes are tested by
abbrev pub limits_of : Timing → Limits
limits_of t = record { lower = lower_of t; upper = upper_of t; rc = t.rc; spacings = spacings_of t }

-- so small that no sum of a clock and one of them is too large
pub record Small (l : Limits) : Type 0 where
  pub rc : l.rc ≤ 2 ^ 32
  pub spacings : (i : ℕ) → get_or l.spacings i 0 ≤ 2 ^ 32

-- the two words of a pair that closes at k are those of a read or write, with no bit above PD; none of its lanes is reserved, its bank
-- has rested, and k is no earlier than `allowed`
pub record Clear (l : Limits) (bank allowed k pair : ℕ) : Type 0 where
  pub opening : pair % 2 ^ 32 / 2 ^ 18 ≡ 2
  pub driven : pair / 2 ^ 32 / 2 ^ 18 ≡ 3
  pub lower : bit_and pair l.lower ≡ 0 → ⊥
  pub upper : bit_and pair l.upper ≡ 0 → ⊥
  pub rested : bank + l.rc ≤ k
  pub late : allowed ≤ k

-- at every clock of a trace that is as long after `last` as the spacings in a row ask for, a write (0) or a read (1) that closes there
-- breaches none of rules 6, 8, 9 and 10
abbrev pub FreeFrom : Timing → Timestamps → ℕ → ℕ → Type 0
FreeFrom t s last row =
    (kind k : ℕ) → kind < 2 → k ≤ limit → last + get_or (spacings_of t) (row + kind) 0 ≤ k
    → Settled t s k × (too_close (eqb kind 1) true t s.read s.write k ≡ false)

-- the timestamps of a track, with the last read and write
abbrev pub stamps_of : Track → Timestamps
stamps_of k =
    record {
      extended = k.stamps.extended;
      regular = k.stamps.regular;
      mode = k.stamps.mode;
      read = get_or k.accesses 1 0;
      write = get_or k.accesses 0 0;
      banks = k.stamps.banks;
      refs = k.stamps.refs;
    }

-- the place where a track stands
abbrev pub track_at : Track → Kept
track_at k = idle_at k.clock (stamps_of k)

-- what holds of a track
pub record Tracked (t : Timing) (end : ℕ) (k : Track) : Type 0 where
  pub row : k.row < 5
  pub low : k.last ≤ 8589934592
  pub fits : k.clock < 2 ^ 32
  pub two : length k.accesses ≡ 2
  pub due : InTime t k.stamps end
  pub free : FreeFrom t (stamps_of k) k.last k.row
