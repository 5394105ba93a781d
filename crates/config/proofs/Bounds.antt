-- What a configuration that passes its tests keeps within: each test of specs/ as the orders that it stands for.
use Prim.Native.Nat.{ℕ, zero, suc, ◌-◌, ◌≤◌, ◌<◌}
use mathlib.Core.Path.{◌≡◌, refl}
use mathlib.Core.List.{[]}
use mathlib.Core.Bool.{Bool, true, false, ◌&&◌, ◌||◌, cond, false≢true}
use native.Mathlib.Omega.{arith}
use mathlib.Core.Logic.{◌⊎◌, inl, inr, ⊎_elim}
use borrow.Author.Tests.{leb-true, eqb-true}
use lib.Dec.{leb, eqb, lit<, lit≤}
use lib.ListN.{get_or}
use native.Mathlib.Nat.{le_trans}
use Rattle.config.specs.Configuration.{one_of, within, part_fits, counts_fit, least_periods, least_period, period_fits}
use Rattle.config.specs.declared.Config.{Config}

-- both tests of a conjunction that holds
pub both : (a b : Bool) → (a && b) ≡ true → (a ≡ true) × (b ≡ true)
both true b e = (refl, e)
both false b e = absurd (false≢true e)

-- one of the tests of a disjunction that holds
pub either : (a b : Bool) → (a || b) ≡ true → (a ≡ true) ⊎ (b ≡ true)
either true b e = inl refl
either false b e = inr e

pub within-true : (low high n : ℕ) → within low high n ≡ true → (low ≤ n) × (n ≤ high)
within-true low high n e =
    let h = both (leb low n) (leb n high) e in
    (leb-true low n h.0, leb-true n high h.1)

record Part (c : Config) : Type 0 where
  cl : within 3 5 c.cl ≡ true
  bl : one_of 2 4 c.bl ≡ true

part-tests : (c : Config) → part_fits c ≡ true → Part c
part-tests c e =
    let grade = one_of 37 50 c.grade in
    let cl = within 3 5 c.cl in
    let bl = one_of 2 4 c.bl in
    let h₁ = both (grade && cl && bl) (one_of 16 8 c.organisation) e in
    let h₂ = both (grade && cl) bl h₁.0 in
    record { cl = (both grade cl h₂.0).1; bl = h₂.1 }

pub cl_bounds : (c : Config) → part_fits c ≡ true → (3 ≤ c.cl) × (c.cl ≤ 5)
cl_bounds c e = within-true 3 5 c.cl (part-tests c e).cl

pub bl-cases : (c : Config) → part_fits c ≡ true → (c.bl ≡ 2) ⊎ (c.bl ≡ 4)
bl-cases c e =
    ⊎_elim (λ h. inl (eqb-true c.bl 2 h)) (λ h. inr (eqb-true c.bl 4 h)) (either (eqb c.bl 2) (eqb c.bl 4) (part-tests c e).bl)

pub record Counts (c : Config) : Type 0 where
  pub rbd : (2 ≤ c.rbd.0) × (c.rbd.0 ≤ 7)
  pub rwd : (1 ≤ c.rwd.0) × (c.rwd.0 ≤ 7)
  pub wrd : (1 ≤ c.wrd.0) × (c.wrd.0 ≤ 7)
  pub rsc : (2 ≤ c.rsc.0) × (c.rsc.0 ≤ 15)
  pub refc : (15 ≤ c.refc.0) × (c.refc.0 ≤ 63)

pub count_bounds : (c : Config) → counts_fit c ≡ true → Counts c
count_bounds c e =
    let rbd = within 2 7 c.rbd.0 in
    let rwd = within 1 7 c.rwd.0 in
    let wrd = within 1 7 c.wrd.0 in
    let rsc = within 2 15 c.rsc.0 in
    let h₄ = both (rbd && rwd && wrd && rsc) (within 15 63 c.refc.0) e in
    let h₃ = both (rbd && rwd && wrd) rsc h₄.0 in
    let h₂ = both (rbd && rwd) wrd h₃.0 in
    let h₁ = both rbd rwd h₂.0 in
    record {
      rbd = within-true 2 7 c.rbd.0 h₁.0;
      rwd = within-true 1 7 c.rwd.0 h₁.1;
      wrd = within-true 1 7 c.wrd.0 h₂.1;
      rsc = within-true 2 15 c.rsc.0 h₃.1;
      refc = within-true 15 63 c.refc.0 h₄.1;
    }

pub row-bound : (b : Bool) → cond b 0 1 < 2
row-bound true = lit< tt
row-bound false = lit< tt

-- the shortest period of the table
entry-bound : (b : Bool) (k : ℕ) → k < 3 → 3750 ≤ get_or (get_or least_periods (cond b 0 1) []) k 0
entry-bound true zero h = lit≤ tt
entry-bound true (suc zero) h = lit≤ tt
entry-bound true (suc (suc zero)) h = lit≤ tt
entry-bound true (suc (suc (suc k))) h = omega arith
entry-bound false zero h = lit≤ tt
entry-bound false (suc zero) h = lit≤ tt
entry-bound false (suc (suc zero)) h = lit≤ tt
entry-bound false (suc (suc (suc k))) h = omega arith

pub period_bounds : (c : Config) → part_fits c ≡ true → period_fits c ≡ true → (3750 ≤ c.period.0) × (c.period.0 ≤ 8500)
period_bounds c part fits =
    let cl = cl_bounds c part in
    let h = within-true (least_period c.grade c.cl) 8500 c.period.0 fits in
    let k : c.cl - 3 < 3 = omega arith in
    (le_trans (entry-bound (eqb c.grade 37) (c.cl - 3) k) h.0, h.1)
