-- Of two sheets that are limits each is in them. A sheet in the limits is accepted: grade, CL, BL, organisation and wiring are those of
-- both, and each other number lies between two that keep its bounds.
use Prim.Native.Nat.{ℕ, ◌≤◌}
use mathlib.Core.Path.{◌≡◌, refl}
use mathlib.Core.Bool.{Bool, true, false, not, ◌&&◌}
use native.Mathlib.Omega.{arith}
use borrow.Author.Tests.{le-leb, le-ltb, ltb-false, not-true}
use lib.Dec.{eqb, ltb}
use Rattle.basics.specs.Outcome.{value}
use Rattle.config.specs.Configuration.{within, least_period, part_fits, period_fits, counts_fit, derived, timing_of}
use Rattle.config.specs.declared.Config.{Config}
use Rattle.config.proofs.Accepted.{Accepted, accepted, timing-is}
use Rattle.config.proofs.Bounds.{within-true, count_bounds}
use Rattle.limits.specs.Within.{Ordered, InLimits}

same : (a : Config) → Ordered a a
same a =
    record {
      grade = refl;
      cl = refl;
      bl = refl;
      organisation = refl;
      wiring = refl;
      period = omega arith;
      rbd = omega arith;
      rwd = omega arith;
      wrd = omega arith;
      rsc = omega arith;
      refc = omega arith;
    }

pub least : (a b : Config) → Ordered a b → InLimits a b a
least a b o = record { from = same a; to = o }

pub greatest : (a b : Config) → Ordered a b → InLimits a b b
greatest a b o = record { from = o; to = same b }

-- what is tested of these numbers alone
part-alike : (a c : Config) → a.grade ≡ c.grade → a.cl ≡ c.cl → a.bl ≡ c.bl → a.organisation ≡ c.organisation
    → part_fits a ≡ true → part_fits c ≡ true
part-alike a c grade cl bl organisation e = rw (← grade, ← cl, ← bl, ← organisation) e

-- from low to high, where a smaller number is not below the one and a larger not above the other
between : (low high : ℕ) {x y z : ℕ} → low ≤ x → z ≤ high → x ≤ y → y ≤ z → within low high y ≡ true
between low high {x} {y} {z} p q l h = rw (le-leb low y (omega arith), le-leb y high (omega arith))

period-between : (a b c : Config) → a.grade ≡ c.grade → a.cl ≡ c.cl → a.period.0 ≤ c.period.0 → c.period.0 ≤ b.period.0
    → period_fits a ≡ true → period_fits b ≡ true → period_fits c ≡ true
period-between a b c grade cl l h e f =
    let x = within-true (least_period a.grade a.cl) 8500 a.period.0 e in
    let y = within-true (least_period b.grade b.cl) 8500 b.period.0 f in
    rw (← grade, ← cl) (between (least_period a.grade a.cl) 8500 x.0 y.1 l h)

-- a larger REFC is not below 18 either
no_shorter : (b : Bool) (m n : ℕ) → m ≤ n → not (b && ltb m 18) ≡ true → not (b && ltb n 18) ≡ true
no_shorter false m n l e = refl
no_shorter true m n l e =
    let h = ltb-false m 18 (not-true _ e) in
    rw (le-ltb n 18 (omega arith))

module _ (a b c : Config) (p : Accepted a) (q : Accepted b) (i : InLimits a b c) where
  abbrev f : Ordered a c
  f = i.from

  abbrev t : Ordered c b
  t = i.to

  counts : counts_fit c ≡ true
  counts =
      let x = count_bounds a p.counts in
      let y = count_bounds b q.counts in
      let rbd = between 2 7 x.rbd.0 y.rbd.1 f.rbd t.rbd in
      let rwd = between 1 7 x.rwd.0 y.rwd.1 f.rwd t.rwd in
      let wrd = between 1 7 x.wrd.0 y.wrd.1 f.wrd t.wrd in
      let rsc = between 2 15 x.rsc.0 y.rsc.1 f.rsc t.rsc in
      let refc = between 15 63 x.refc.0 y.refc.1 f.refc t.refc in
      rw (rbd, rwd, wrd, rsc, refc)

  accepts : Accepted c
  accepts =
      record {
        part = part-alike a c f.grade f.cl f.bl f.organisation p.part;
        wiring = rw (← f.wiring) p.wiring;
        period = period-between a b c f.grade f.cl f.period t.period p.period q.period;
        counts = counts;
        refresh = rw (← f.cl) (no_shorter (eqb a.cl 4) a.refc.0 c.refc.0 f.refc p.refresh);
      }

pub in_limits-accepted : (a b c : Config) → timing_of a ≡ value (derived a) → timing_of b ≡ value (derived b) → InLimits a b c
    → timing_of c ≡ value (derived c)
in_limits-accepted a b c e h i = timing-is c (accepts a b c (accepted a _ e).0 (accepted b _ h).0 i)
