-- What every accepted configuration has in its timing.
use Prim.Native.Nat.{ℕ, ◌+◌, ◌*◌, ◌/◌, ◌≤◌}
use mathlib.Core.Path.{◌≡◌}
use mathlib.Core.Bool.{Bool, true, false, cond}
use mathlib.Core.Logic.{◌⊎◌}
use native.Mathlib.Omega.{arith}
use native.Mathlib.Nat.{le-div_iff_mul-le, div-mul-le_self, le_trans}
use lib.Dec.{eqb}
use Rattle.config.specs.Configuration.{rc_of, spacing_of, derived}
use Rattle.config.specs.declared.Config.{Config}
use Rattle.config.specs.declared.Timing.{Timing}
use Rattle.config.proofs.Accepted.{Accepted}
use Rattle.config.proofs.Bounds.{cl_bounds, bl-cases, count_bounds, period_bounds}

-- the bounds of the figures of an accepted sheet that the proofs go by
pub record Figures (t : Timing) : Type 0 where
  pub bl : (t.bl ≡ 2) ⊎ (t.bl ≡ 4)
  pub cl : (3 ≤ t.cl) × (t.cl ≤ 5)
  pub rc : (5 ≤ t.rc) × (t.rc ≤ 6)
  pub rsc : (2 ≤ t.rsc) × (t.rsc ≤ 15)
  pub refc : (15 ≤ t.refc) × (t.refc ≤ 63)
  pub refi : 458 ≤ t.refi
  pub window : t.window ≤ t.refi + 1
  -- S is at least each spacing between two reads or writes
  pub same-bank : t.rc ≤ t.spacing
  pub any_bank : t.rbd ≤ t.spacing
  pub read-write : t.rwd + 1 ≤ t.spacing
  pub write_read : t.wrd + 1 ≤ t.spacing
  pub spacing : t.spacing ≤ 8

rc_bounds : (b : Bool) → (5 ≤ cond b 6 5) × (cond b 6 5 ≤ 6)
rc_bounds true = (omega arith, omega arith)
rc_bounds false = (omega arith, omega arith)

-- a larger number has no smaller quotient
quotients : (a b p : ℕ) → 1 ≤ p → a ≤ b → a / p ≤ b / p
quotients a b p h le = (le-div_iff_mul-le {k = p} (omega arith)).1 (le_trans (div-mul-le_self a p) le)

spacing-bound : (rc rbd rwd wrd : ℕ) → rc ≤ 6 → rbd ≤ 7 → rwd ≤ 7 → wrd ≤ 7 → spacing_of rc rbd rwd wrd ≤ 8
spacing-bound rc rbd rwd wrd a b c d = omega arith

-- an accepted sheet has them
pub figures : (c : Config) → Accepted c → Figures (derived c)
figures c a =
    let n = count_bounds c a.counts in
    let p = period_bounds c a.part a.period in
    let positive : 1 ≤ c.period.0 = omega arith in
    let whole : 458 * c.period.0 ≤ 3900000 = omega arith in
    let shorter = quotients 3200000 3900000 c.period.0 positive (omega arith) in
    record {
      bl = bl-cases c a.part;
      cl = cl_bounds c a.part;
      rc = rc_bounds (eqb c.cl 5);
      rsc = n.rsc;
      refc = n.refc;
      refi = (le-div_iff_mul-le {k = c.period.0} (omega arith)).1 whole;
      window = omega arith;
      same-bank = omega arith;
      any_bank = omega arith;
      read-write = omega arith;
      write_read = omega arith;
      spacing =
          spacing-bound (rc_of c.cl) c.rbd.0 c.rwd.0 c.wrd.0 (rc_bounds (eqb c.cl 5)).1 n.rbd.1 n.rwd.1
          n.wrd.1;
    }
