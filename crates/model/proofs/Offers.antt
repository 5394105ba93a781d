-- A request that is accepted meets its bound from then on.
use Prim.Native.Nat.{ℕ, ◌+◌, ◌≤◌}
use mathlib.Core.Path.{◌≡◌, refl}
use mathlib.Core.Bool.{Bool, true, false}
use mathlib.Core.List.{List}
use mathlib.Core.Logic.{inl, inr}
use native.Mathlib.Omega.{arith}
use borrow.Author.Tests.{leb-true, leb-false}
use lib.Dec.{leb}
use Rattle.config.specs.declared.Timing.{Timing}
use Rattle.rules.specs.History.{ClosedPair}
use Rattle.rules.specs.Rules.{was_read, was_write}
use Rattle.rules.proofs.Newest.{latest}
use Rattle.model.proofs.Figures.{Figures}
use Rattle.model.proofs.InTime.{last_ref}
use Rattle.model.proofs.Prompt.{Meets}
use Rattle.model.proofs.Soonest.{Pace, soonest, pace_soonest}

-- M is max(c, 201), and m is S for each request that may open before
module _ (t : Timing) (f : Figures t) (ps : List ClosedPair) (k M m : ℕ) (now : k ≤ M + 1) (ready : 201 ≤ M) (read : latest was_read ps ≤ M)
    (write : latest was_write ps ≤ M) (refresh : last_ref ps ≤ M) (few : m ≤ 184) where
  meets : (F : ℕ) → (Pace t ps k (M + t.spacing + t.rc + 1) → F ≤ M + t.spacing + t.rc + 1)
      → (Pace t ps k (last_ref ps + t.refc) → F ≤ last_ref ps + t.refc)
      → Meets t (last_ref ps) (F + m) (M + (m + t.spacing) + t.rc + t.refc + 1)
  meets F soon put_off = by (leb (last_ref ps + t.refc) (M + t.spacing + t.rc + 1)) refl
    where
      by : (b : Bool) → leb (last_ref ps + t.refc) (M + t.spacing + t.rc + 1) ≡ b
          → Meets t (last_ref ps) (F + m) (M + (m + t.spacing) + t.rc + t.refc + 1)
      by true e =
          let l = leb-true (last_ref ps + t.refc) (M + t.spacing + t.rc + 1) e in
          let rc = f.rc.0 in
          let h = soon (record { now = omega arith; ready = omega arith; read = omega arith; write = omega arith; refresh = l }) in
          inr (omega arith)
      by false e =
          let l = leb-false (last_ref ps + t.refc) (M + t.spacing + t.rc + 1) e in
          let rc = f.rc in
          let refc = f.refc.1 in
          let refi = f.refi in
          let h = put_off
          (record { now = omega arith; ready = omega arith; read = omega arith; write = omega arith; refresh = omega arith }) in
          inl (omega arith, omega arith)

  -- the bound max(c, 201) + (q + 1) S + RC + REFC, one more for the closing word
  pub accepted-meets : Meets t (last_ref ps) (soonest t ps k + m) (M + (m + t.spacing) + t.rc + t.refc + 1)
  accepted-meets = meets (soonest t ps k) (pace_soonest t ps k (M + t.spacing + t.rc + 1)) (pace_soonest t ps k (last_ref ps + t.refc))
