-- A pair breaches nothing where each spacing that binds it has run out.
use Prim.Native.Nat.{ℕ, ◌+◌, ◌≤◌}
use mathlib.Core.Path.{◌≡◌}
use mathlib.Core.Bool.{true, false, and-false}
use mathlib.Core.Logic.{◌⊎◌, inl, inr}
use borrow.Author.Tests.{le-ltb}
use lib.ListN.{get_or}
use Rattle.config.specs.declared.Timing.{Timing}
use Rattle.roundtrip.proofs.SoundPair.{sound-tests}
use Rattle.command.specs.Pairs.{rda, lal}
use Rattle.reading.specs.Reading.{sound_pair}
use Rattle.rules.specs.Breaches.{near, deadline, overdue, bank_stamp, not_ready, word_breach}
use Rattle.stamps.specs.declared.Timestamps.{Timestamps}

-- the spacing n behind an event at c, if there was one, has run out by k
abbrev pub Over : ℕ → ℕ → ℕ → Type 0
Over k c n = (c ≡ 0) ⊎ (c + n ≤ k)

-- a spacing that has run out is not near
pub over-near : (k c n : ℕ) → Over k c n → near k c n ≡ false
over-near k c n (inl e) = rw e
over-near k c n (inr h) = rw (le-ltb k (c + n) h, and-false)

-- no refresh is overdue at k
abbrev pub InTime : Timing → Timestamps → ℕ → Type 0
InTime t s k = overdue (deadline t.refi s.refs) k ≡ false

-- what binds a refresh that closes at k
pub record RefreshFree (t : Timing) (s : Timestamps) (k : ℕ) : Type 0 where
  pub mode : Over k s.mode t.rsc
  pub refresh : Over k (get_or s.refs 0 0) t.refc
  pub read : Over k s.read t.rc
  pub write : Over k s.write t.rc
  pub window : Over k (get_or s.refs 7 0) t.window

-- the first word of a refresh passes in time
pub refresh-first : (t : Timing) (s : Timestamps) (k : ℕ) → InTime t s k → word_breach t s k 0xC0000 0x80000 ≡ 0
refresh-first t s k h = rw h

-- a REF word passes where nothing holds it back
pub refresh-closes : (t : Timing) (s : Timestamps) (k : ℕ) → InTime t s k → RefreshFree t s k → word_breach t s k 0x80000 0x80000 ≡ 0
refresh-closes t s k h f =
    rw (
      h,
      over-near k s.mode t.rsc f.mode,
      over-near k (get_or s.refs 0 0) t.refc f.refresh,
      over-near k s.read t.rc f.read,
      over-near k s.write t.rc f.write,
      over-near k (get_or s.refs 7 0) t.window f.window,
    )

-- what binds a mode pair that closes at k where no read or write has been
pub record ModeFree (t : Timing) (s : Timestamps) (k first second : ℕ) : Type 0 where
  pub sound : sound_pair t first second ≡ true
  pub closes : lal second ≡ false
  pub rda : rda first ≡ true
  pub read : s.read ≡ 0
  pub write : s.write ≡ 0
  pub mode : Over k s.mode t.rsc
  pub refresh : Over k (get_or s.refs 0 0) t.refc

-- an MRS word passes where nothing holds it back
pub mode-closes : (t : Timing) (s : Timestamps) (k first second : ℕ) → InTime t s k → ModeFree t s k first second
    → word_breach t s k first second ≡ 0
mode-closes t s k first second h f =
    let w = sound-tests t first second f.sound in
    rw (w.mode, w.lane)
    (rw (
      h,
      w.stray₂,
      w.pd₂,
      w.cs,
      f.closes,
      f.rda,
      f.read,
      f.write,
      over-near k s.mode t.rsc f.mode,
      over-near k (get_or s.refs 0 0) t.refc f.refresh,
    ))

-- what binds a read or write that closes at k, with these words
pub record AccessFree (t : Timing) (s : Timestamps) (k first second : ℕ) : Type 0 where
  pub sound : sound_pair t first second ≡ true
  pub lal : lal second ≡ true
  pub ready : not_ready s.extended s.regular (get_or s.refs 1 0) k ≡ false
  pub bank : Over k (bank_stamp t.four s first) t.rc
  pub read : Over k s.read t.rbd
  pub write : Over k s.write t.rbd
  pub turn-write : Over k s.read (t.rwd + 1)
  pub turn-read : Over k s.write (t.wrd + 1)
  pub mode : Over k s.mode t.rsc
  pub refresh : Over k (get_or s.refs 0 0) t.refc

-- the first word of a sound pair passes in time
pub sound-first : (t : Timing) (s : Timestamps) (k first second : ℕ) → InTime t s k → sound_pair t first second ≡ true
    → word_breach t s k 0xC0000 first ≡ 0
sound-first t s k first second h e =
    let w = sound-tests t first second e in
    rw (h, w.stray₁, w.pd₁)

-- a LAL passes where nothing holds it back
pub access-closes : (t : Timing) (s : Timestamps) (k first second : ℕ) → InTime t s k → AccessFree t s k first second
    → word_breach t s k first second ≡ 0
access-closes t s k first second h f =
    let w = sound-tests t first second f.sound in
    rw (
      w.mode,
      w.lane,
    ) (simp (
      h,
      w.stray₂,
      w.pd₂,
      w.cs,
      f.lal,
      f.ready,
      over-near k (bank_stamp t.four s first) t.rc f.bank,
      over-near k s.read t.rbd f.read,
      over-near k s.write t.rbd f.write,
      over-near k s.read (t.rwd + 1) f.turn-write,
      over-near k s.write (t.wrd + 1) f.turn-read,
      over-near k s.mode t.rsc f.mode,
      over-near k (get_or s.refs 0 0) t.refc f.refresh,
      and-false,
    ))
