-- The two tests of 35 as the orders that they stand for, and back.
use mathlib.Core.Path.{◌≡◌}
use mathlib.Core.Bool.{true, ◌&&◌}
use borrow.Author.Tests.{leb-true, eqb-true, le-leb, eq-eqb}
use Rattle.config.specs.declared.Config.{Config}
use Rattle.config.proofs.Bounds.{both}
use Rattle.limits.specs.Limits.{alike, nowhere_above}
use Rattle.limits.specs.Within.{Ordered}

pub ordered : (a b : Config) → (alike a b && nowhere_above a b) ≡ true → Ordered a b
ordered a b e =
    let h = both (alike a b) (nowhere_above a b) e in
    let p₄ = both _ _ h.0 in
    let p₃ = both _ _ p₄.0 in
    let p₂ = both _ _ p₃.0 in
    let p₁ = both _ _ p₂.0 in
    let q₅ = both _ _ h.1 in
    let q₄ = both _ _ q₅.0 in
    let q₃ = both _ _ q₄.0 in
    let q₂ = both _ _ q₃.0 in
    let q₁ = both _ _ q₂.0 in
    record {
      grade = eqb-true _ _ p₁.0;
      cl = eqb-true _ _ p₁.1;
      bl = eqb-true _ _ p₂.1;
      organisation = eqb-true _ _ p₃.1;
      wiring = eqb-true _ _ p₄.1;
      period = leb-true _ _ q₁.0;
      rbd = leb-true _ _ q₁.1;
      rwd = leb-true _ _ q₂.1;
      wrd = leb-true _ _ q₃.1;
      rsc = leb-true _ _ q₄.1;
      refc = leb-true _ _ q₅.1;
    }

pub fits : (a b : Config) → Ordered a b → (alike a b && nowhere_above a b) ≡ true
fits a b o =
    rw
    (eq-eqb _ _ o.grade, eq-eqb _ _ o.cl, eq-eqb _ _ o.bl, eq-eqb _ _ o.organisation, eq-eqb _ _ o.wiring)
    (rw
    (le-leb _ _ o.period, le-leb _ _ o.rbd, le-leb _ _ o.rwd, le-leb _ _ o.wrd, le-leb _ _ o.rsc, le-leb _ _ o.refc))
