-- Rules 5 to 8 look at reads and writes alone, rules 4, 11 and 12 at mode and refresh pairs alone.
use Prim.Native.Nat.{ℕ, ◌+◌}
use mathlib.Core.Path.{◌≡◌}
use mathlib.Core.Bool.{Bool, true, false, cond, not, ◌&&◌, and-false, and-true}
use mathlib.Core.List.{[], ◌∷◌}
use native.Mathlib.Nat.{add-zero}
use lib.ListN.{get_or}
use Rattle.config.specs.declared.Timing.{Timing}
use Rattle.command.specs.Pairs.{rda, lal}
use Rattle.reading.specs.Reading.{mode_wrong, lane_reserved}
use Rattle.rules.specs.Rules.{lowest}
use Rattle.rules.specs.Breaches.{near, bank_stamp, not_ready, too_close, busy, closing_breach}
use Rattle.stamps.specs.declared.Timestamps.{Timestamps}

module _ (t : Timing) (s : Timestamps) (k first second : ℕ) where
  pub at-lal : {b5 b6 b7 b8 b9 b10 : Bool} → lal second ≡ true
      → b5 ≡ lane_reserved t first second
      → b6 ≡ not_ready s.extended s.regular (get_or s.refs 1 0) k
      → b7 ≡ near k (bank_stamp t.four s first) (t.rc + 0)
      → b8 ≡ too_close (rda first) true t s.read s.write k
      → b9 ≡ near k s.mode (t.rsc + 0)
      → b10 ≡ near k (get_or s.refs 0 0) (t.refc + 0)
      → lowest 5 (b5 ∷ b6 ∷ b7 ∷ b8 ∷ b9 ∷ b10 ∷ []) ≡ closing_breach t s k first second
  at-lal l e5 e6 e7 e8 e9 e10 =
      rw (
        e5,
        e6,
        e7,
        e8,
        e9,
        e10,
        add-zero t.rc,
        add-zero t.rsc,
        add-zero t.refc,
        l,
        and-false (rda first),
        and-false (not (rda first)),
      )

  pub at_other : {b4 b9 b10 b11 b12 : Bool} → lal second ≡ false
      → b4 ≡ mode_wrong t first second
      → b9 ≡ near k s.mode (t.rsc + 0)
      → b10 ≡ near k (get_or s.refs 0 0) (t.refc + 0)
      → b11 ≡ busy (rda first) false t s.read s.write k
      → b12 ≡ near k (get_or s.refs 7 0) (t.window + 0)
      → cond b4 4 (lowest 9 (b9 ∷ b10 ∷ b11 ∷ (not (rda first) && b12) ∷ [])) ≡ closing_breach t s k first second
  at_other l e4 e9 e10 e11 e12 =
      rw (
        e4,
        e9,
        e10,
        e11,
        e12,
        add-zero t.rsc,
        add-zero t.refc,
        add-zero t.window,
        l,
        and-false (rda first),
        and-false (not (rda first)),
        and-true (not (rda first)),
      )
