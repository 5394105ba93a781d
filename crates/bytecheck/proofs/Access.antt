-- Reads and writes that are clear: when the next of either kind is allowed, and how a check goes on from track to track.
use Prim.Native.Nat.{ℕ, zero, suc, ◌+◌, ◌*◌, ◌/◌, ◌%◌, ◌^◌, ◌≤◌, ◌<◌}
use mathlib.Core.Path.{◌≡◌, refl, sym, ◌∙◌}
use mathlib.Core.Bool.{Bool, true, false, not, cond, ◌&&◌, ◌||◌, false≢true}
use mathlib.Core.List.{List}
use native.Mathlib.Omega.{arith}
use borrow.Author.Tests.{le-ltb, ltb-false}
use lib.ListN.{length, get_or, set, length-set}
use lib.Seq.{get_or-set_same, get_or-set_other}
use lib.Dec.{eqb, ltb}
use Rattle.basics.specs.Numbers.{limit}
use Rattle.config.specs.declared.Timing.{Timing}
use Rattle.command.specs.Address.{bank_of}
use Rattle.rules.specs.Breaches.{near, too_close, deadline, overdue}
use Rattle.stamps.specs.declared.Timestamps.{Timestamps}
use Rattle.bytecheck.specs.Passed.{Passed, none, more}
use Rattle.bytecheck.specs.Quick.{SettledFrom, idle_at}
use Rattle.bytecheck.specs.Pairs.{spacings_of, limits_of, Clear, FreeFrom, stamps_of, track_at, Tracked}
use Rattle.stamps.specs.declared.Kept.{Kept}
use Rattle.bytecheck.specs.declared.pairs.Track.{Track}
use Rattle.bytecheck.proofs.Passing.{far, Keeping, accessed, opening-passes, access-passes, passed_on, desl_quiet, quiet_on}
use Rattle.bytecheck.proofs.Lanes.{unreserved}

-- an event that is not near is not so later
later : (k j c n : ℕ) → k ≤ j → near k c n ≡ false → near j c n ≡ false
later k j c n h e = by (not (eqb c 0)) e
  where
    by : (b : Bool) → b && ltb k (c + n) ≡ false → b && ltb j (c + n) ≡ false
    by false e = refl
    by true e = le-ltb j (c + n) (omega (arith, ltb-false k (c + n) e))

-- what a test that is a sum of tests says of each of them
neither : (a b : Bool) → a || b ≡ false → (a ≡ false) × (b ≡ false)
neither false b e = (refl, e)
neither true b e = absurd (false≢true (sym e))

module _ (t : Timing) (read write k : ℕ) where
  -- rule 8 of a read, and of a write
  read_clear : near k read t.rbd ≡ false → near k write t.rbd ≡ false → near k write (t.wrd + 1) ≡ false
      → too_close true true t read write k ≡ false
  read_clear a b c = rw (a, b) c

  write_clear : near k read t.rbd ≡ false → near k write t.rbd ≡ false → near k read (t.rwd + 1) ≡ false
      → too_close false true t read write k ≡ false
  write_clear a b c = rw (a, b, c)

  -- and what they say
  record Apart (turn : ℕ → ℕ → Bool) : Type 0 where
    after_read : near k read t.rbd ≡ false
    after_write : near k write t.rbd ≡ false
    turned : turn read write ≡ false

  read_apart : too_close true true t read write k ≡ false → Apart (λ r w. near k w (t.wrd + 1))
  read_apart e =
      let both = near k read t.rbd || near k write t.rbd in
      let parts = neither (both || false) (near k write (t.wrd + 1)) e in
      let same = neither (near k read t.rbd) (near k write t.rbd) (neither both false parts.0).0 in
      record { after_read = same.0; after_write = same.1; turned = parts.1 }

  write_apart : too_close false true t read write k ≡ false → Apart (λ r w. near k r (t.rwd + 1))
  write_apart e =
      let both = near k read t.rbd || near k write t.rbd in
      let parts = neither both (near k read (t.rwd + 1)) (neither (both || near k read (t.rwd + 1)) false e).0 in
      let same = neither (near k read t.rbd) (near k write t.rbd) parts.0 in
      record { after_read = same.0; after_write = same.1; turned = parts.1 }

-- from a clock on that is far enough from both
pub free-start : (t : Timing) (s : Timestamps) (r : ℕ) → SettledFrom t s r → s.read + t.rbd ≤ r → s.read + (t.rwd + 1) ≤ r
    → s.write + t.rbd ≤ r → s.write + (t.wrd + 1) ≤ r → FreeFrom t s r 4
free-start t s r settled rr rw wr ww zero k small h from = (
  settled k h (omega arith),
  write_clear t s.read s.write k (far k s.read t.rbd (omega arith)) (far k s.write t.rbd (omega arith))
      (far k s.read (t.rwd + 1) (omega arith)),
)
free-start t s r settled rr rw wr ww (suc zero) k small h from = (
  settled k h (omega arith),
  read_clear t s.read s.write k (far k s.read t.rbd (omega arith)) (far k s.write t.rbd (omega arith))
      (far k s.write (t.wrd + 1) (omega arith)),
)
free-start t s r settled rr rw wr ww (suc (suc kind)) k small h from = absurd (omega arith)

-- at the closing word of a read or write the next of either kind are counted from there
module _ (t : Timing) (s : Timestamps) (k : ℕ) where
  -- the timestamps behind it
  abbrev pub behind : ℕ → List ℕ → Timestamps
  behind kind banks =
      record {
        extended = s.extended;
        regular = s.regular;
        mode = s.mode;
        read = cond (eqb kind 1) k s.read;
        write = cond (eqb kind 1) s.write k;
        banks = banks;
        refs = s.refs;
      }

  next-free : (kind next j : ℕ) → kind < 2 → next < 2 → too_close (eqb kind 1) true t s.read s.write k ≡ false
      → k + get_or (spacings_of t) (2 * kind + next) 0 ≤ j
      → too_close (eqb next 1) true t (cond (eqb kind 1) k s.read) (cond (eqb kind 1) s.write k) j ≡ false
  next-free zero zero j h h' e from =
      let a = write_apart t s.read s.write k e in
      write_clear t s.read k j (later k j s.read t.rbd (omega arith) a.after_read) (far j k t.rbd (omega arith))
      (later k j s.read (t.rwd + 1) (omega arith) a.turned)
  next-free zero (suc zero) j h h' e from =
      let a = write_apart t s.read s.write k e in
      read_clear t s.read k j (later k j s.read t.rbd (omega arith) a.after_read) (far j k t.rbd (omega arith))
      (far j k (t.wrd + 1) (omega arith))
  next-free (suc zero) zero j h h' e from =
      let a = read_apart t s.read s.write k e in
      write_clear t k s.write j (far j k t.rbd (omega arith)) (later k j s.write t.rbd (omega arith) a.after_write)
      (far j k (t.rwd + 1) (omega arith))
  next-free (suc zero) (suc zero) j h h' e from =
      let a = read_apart t s.read s.write k e in
      read_clear t k s.write j (far j k t.rbd (omega arith)) (later k j s.write t.rbd (omega arith) a.after_write)
      (later k j s.write (t.wrd + 1) (omega arith) a.turned)
  next-free (suc (suc kind)) next j h h' e from = absurd (omega arith)
  next-free zero (suc (suc next)) j h h' e from = absurd (omega arith)
  next-free (suc zero) (suc (suc next)) j h h' e from = absurd (omega arith)

  -- so the row of its own kind takes over
  pub free_on : (last row : ℕ) → FreeFrom t s last row → (kind : ℕ) → kind < 2 → k ≤ limit
      → last + get_or (spacings_of t) (row + kind) 0 ≤ k → (banks : List ℕ) → FreeFrom t (behind kind banks) k (2 * kind)
  free_on last row free kind small inside from banks next j small' inside' from' =
      let settled = (free kind j small inside' (omega arith)).0 in (
        record { ready = settled.ready; after_mode = settled.after_mode; after_refresh = settled.after_refresh },
        next-free kind next j small small' (free kind k small inside from).1 from',
      )

-- the two words of a read or write that is clear
module _ (t : Timing) (ws : List ℕ) (s : Timestamps) (at last row pair : ℕ) where
  abbrev pub kind_of : ℕ
  kind_of = pair % 2 ^ 32 / 2 ^ 17 % 2

  pub pair-passed : {bank : ℕ} → at + 1 < length ws → at + 1 ≤ limit
      → ((k : ℕ) → k < at + 2 → overdue (deadline t.refi s.refs) k ≡ false)
      → (pair % 2 ^ 32 ≡ get_or ws at 0) × (pair / 2 ^ 32 ≡ get_or ws (at + 1) 0) → bank ≡ bank_of t.four (pair % 2 ^ 32)
      → FreeFrom t s last row
      → Clear (limits_of t) (get_or s.banks bank 0) (last + get_or (spacings_of t) (row + kind_of) 0) (at + 1) pair
      → {read write : ℕ} → read ≡ cond {A = ℕ} (eqb kind_of 1) (at + 1) s.read → write ≡ cond {A = ℕ} (eqb kind_of 1) s.write (at + 1)
      → Passed t ws (idle_at at s) (accessed bank (record { clock = at + 1; met = pair % 2 ^ 32; stamps = s }) read write)
  pair-passed inside limited due words of-bank free clear read write =
      let small : kind_of < 2 = omega arith in
      let allowed = free kind_of (at + 1) small limited clear.late in
      let p : Kept = record { clock = at + 1; met = pair % 2 ^ 32; stamps = s } in
      let kept : Keeping t s (at + 1) (pair % 2 ^ 32) (pair / 2 ^ 32) =
      record {
        driven = clear.driven;
        unreserved = unreserved t clear;
        rested = far (at + 1) _ t.rc (rw of-bank at clear.rested);
        spaced = allowed.1;
        settled = allowed.0;
      } in
      more
      (more none (opening-passes t ws (idle_at at s) (omega arith) words.0 (due at (omega arith)) refl clear.opening))
      (access-passes t ws p inside words.1 (due (at + 1) (omega arith)) (rw clear.opening) of-bank kept read write)

-- where the last write and the last read closed, once one more has
module _ (accesses : List ℕ) (two : length accesses ≡ 2) (closing : ℕ) where
  set-read : (kind : ℕ) → kind < 2 → get_or (set accesses kind closing) 1 0 ≡ cond {A = ℕ} (eqb kind 1) closing (get_or accesses 1 0)
  set-read zero h = get_or-set_other accesses 0 1 closing 0 (λ e. omega arith)
  set-read (suc zero) h = get_or-set_same accesses 1 closing 0 (omega arith)
  set-read (suc (suc kind)) h = absurd (omega arith)

  set-write : (kind : ℕ) → kind < 2 → get_or (set accesses kind closing) 0 0 ≡ cond {A = ℕ} (eqb kind 1) (get_or accesses 0 0) closing
  set-write zero h = get_or-set_same accesses 0 closing 0 (omega arith)
  set-write (suc zero) h = get_or-set_other accesses 1 0 closing 0 (λ e. omega arith)
  set-write (suc (suc kind)) h = absurd (omega arith)

-- the track behind a read or write of a bank
abbrev pub onward : Track → ℕ → ℕ → Track
onward k bank kind =
    let closing = k.clock + 1 in
    let s = k.stamps in
    record {
      clock = closing + 1;
      last = closing;
      row = 2 * kind;
      accesses = set k.accesses kind closing;
      stamps =
          record {
            extended = s.extended;
            regular = s.regular;
            mode = s.mode;
            read = s.read;
            write = s.write;
            banks = set s.banks bank closing;
            refs = s.refs;
          };
    }

-- from one track to another
pub record Going (t : Timing) (ws : List ℕ) (end : ℕ) (from at : Track) : Type 0 where
  pub tracked : Tracked t end at
  pub passed : Passed t ws (track_at from) (track_at at)

-- by a read or write that is clear
pub goes_on : {t : Timing} {ws : List ℕ} {end : ℕ} {from k : Track} → Going t ws end from k → k.clock + 1 < end → end ≤ length ws
    → end ≤ limit → (pair : ℕ) {bank : ℕ} → (pair % 2 ^ 32 ≡ get_or ws k.clock 0) × (pair / 2 ^ 32 ≡ get_or ws (k.clock + 1) 0)
    → bank ≡ bank_of t.four (pair % 2 ^ 32)
    → let kind = pair % 2 ^ 32 / 2 ^ 17 % 2 in
    Clear (limits_of t) (get_or k.stamps.banks bank 0) (k.last + get_or (spacings_of t) (k.row + kind) 0) (k.clock + 1) pair
    → Going t ws end from (onward k bank kind)
goes_on {t} {ws} {end} {from} {k} going inside listed limited pair {bank} words of-bank clear =
    let kept = going.tracked in
    let kind : ℕ = pair % 2 ^ 32 / 2 ^ 17 % 2 in
    let small : kind < 2 = omega arith in
    let closing = k.clock + 1 in
    let read = set-read k.accesses kept.two closing kind small in
    let write = set-write k.accesses kept.two closing kind small in
    record {
      tracked =
          record {
            row = omega arith;
            low = omega arith;
            fits = omega arith;
            two = length-set k.accesses kind closing ∙ kept.two;
            due = kept.due;
            free =
                rw (read, write)
                (free_on t (stamps_of k) closing k.last k.row kept.free kind small (omega arith) clear.late
                (set k.stamps.banks bank closing));
          };
      passed =
          passed_on going.passed
          (pair-passed t ws (stamps_of k) k.clock k.last k.row pair (omega arith) (omega arith)
          (λ j h. kept.due j (omega arith))
          words
          of-bank
          kept.free clear read write);
    }

-- the same at a later clock
abbrev pub shifted : Track → ℕ → Track
shifted k clock = record { clock = clock; last = k.last; row = k.row; accesses = k.accesses; stamps = k.stamps }

-- and by DESL words
pub goes_over : {t : Timing} {ws : List ℕ} {end : ℕ} {from k : Track} → Going t ws end from k → (n : ℕ) → k.clock + n ≤ end
    → end ≤ length ws → end ≤ limit → ((i : ℕ) → i < n → get_or ws (k.clock + i) 0 / 2 ^ 18 ≡ 3)
    → Going t ws end from (shifted k (k.clock + n))
goes_over {t} {ws} {end} {from} {k} going n inside listed limited desl =
    let kept = going.tracked in
    record {
      tracked = record { row = kept.row; low = kept.low; fits = omega arith; two = kept.two; due = kept.due; free = kept.free };
      passed =
          passed_on going.passed
          (quiet_on 18 3 desl_quiet t (stamps_of k) ws k.clock n (λ i h. (omega arith, desl i h))
          (λ i h. kept.due (k.clock + i) (omega arith)));
    }
