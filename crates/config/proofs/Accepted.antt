-- A call that gave a value had an accepted configuration: all its tests held, and its timing is the derived one. So had one that refused by
-- a number which no configuration is refused by.
use Prim.Native.Nat.{ℕ, ◌≤◌, ◌<◌}
use mathlib.Core.Path.{◌≡◌}
use mathlib.Core.Bool.{true}
use mathlib.Core.Logic.{⊎_elim}
use native.Mathlib.Omega.{arith}
use lib.Dec.{eqb}
use Rattle.basics.specs.Outcome.{Outcome, value, refused, given}
use Rattle.config.specs.Configuration.{part_fits, wiring_fits, period_fits, counts_fit, refresh_fits, derived, timing_of}
use Rattle.config.specs.declared.Config.{Config}
use Rattle.config.specs.declared.Timing.{Timing}
use Rattle.config.proofs.Bounds.{bl-cases}
use Rattle.basics.proofs.Outcomes.{require-value, given-value, Not, value_not, require-not, given-behind}

pub record Accepted (c : Config) : Type 0 where
  pub part : part_fits c ≡ true
  pub wiring : wiring_fits c ≡ true
  pub period : period_fits c ≡ true
  pub counts : counts_fit c ≡ true
  pub refresh : refresh_fits c ≡ true

pub accepted : (c : Config) (t : Timing) → timing_of c ≡ value t → Accepted c × (derived c ≡ t)
accepted c t e =
    let h₁ = require-value (part_fits c) _ _ e in
    let h₂ = require-value (wiring_fits c) _ _ h₁.1 in
    let h₃ = require-value (period_fits c) _ _ h₂.1 in
    let h₄ = require-value (counts_fit c) _ _ h₃.1 in
    let h₅ = require-value (refresh_fits c) _ _ h₄.1 in
    (record { part = h₁.0; wiring = h₂.0; period = h₃.0; counts = h₄.0; refresh = h₅.0 }, cc h₅.1)

-- the timing has its configuration's wiring
pub wired : (c : Config) (t : Timing) → timing_of c ≡ value t → t.four ≡ eqb c.wiring 4
wired c t e = rw (← (accepted c t e).1)

-- and a burst length of at most 4
pub bl-bound : (c : Config) (t : Timing) → timing_of c ≡ value t → t.bl ≤ 4
bl-bound c t e =
    let a = accepted c t e in
    rw (← a.1) (⊎_elim (λ h. omega arith) (λ h. omega arith) (bl-cases c a.0.part))

pub timing-is : (c : Config) → Accepted c → timing_of c ≡ value (derived c)
timing-is c a = rw (a.part, a.wiring, a.period, a.counts, a.refresh)

-- what such a call came to, at the derived timing
pub behind : {B : Type 0} (c : Config) (f : Timing → Outcome B) {b : B} → given (timing_of c) f ≡ value b
    → Accepted c × (f (derived c) ≡ value b)
behind c f e =
    let g = given-value (timing_of c) f e in
    let a = accepted c g.0 g.1 in
    (a.0, rw a.1 g.2)

pub behind-refusal : {B : Type 0} (c : Config) {n : ℕ} (f : Timing → Outcome B) → Not n (timing_of c) → given (timing_of c) f ≡ refused n
    → (timing_of c ≡ value (derived c)) × (f (derived c) ≡ refused n)
behind-refusal c f h e =
    let g = given-behind (timing_of c) f h e in
    let a = accepted c g.0 g.1 in
    (timing-is c a.0, rw a.1 g.2)

-- a configuration is refused by these five numbers alone
config-not : (c : Config) (n : ℕ) → (20 ≡ n → ⊥) → (34 ≡ n → ⊥) → (21 ≡ n → ⊥) → (22 ≡ n → ⊥) → (33 ≡ n → ⊥) → Not n (timing_of c)
config-not c n not-20 not-34 not-21 not-22 not-33 =
    require-not (part_fits c) 20 n _ not-20
    (require-not (wiring_fits c) 34 n _ not-34
    (require-not (period_fits c) 21 n _ not-21
    (require-not (counts_fit c) 22 n _ not-22
    (require-not (refresh_fits c) 33 n _ not-33 (value_not n _)))))

-- so not by one below 20
pub config-below : (c : Config) (n : ℕ) → n < 20 → Not n (timing_of c)
config-below c n low = config-not c n (λ e. omega arith) (λ e. omega arith) (λ e. omega arith) (λ e. omega arith) (λ e. omega arith)

-- nor by a number between 22 and 33
pub config-between : (c : Config) (n : ℕ) → 22 < n → n < 33 → Not n (timing_of c)
config-between c n low high = config-not c n (λ e. omega arith) (λ e. omega arith) (λ e. omega arith) (λ e. omega arith) (λ e. omega arith)

-- nor by one above 34
pub config_above : (c : Config) (n : ℕ) → 34 < n → Not n (timing_of c)
config_above c n high = config-not c n (λ e. omega arith) (λ e. omega arith) (λ e. omega arith) (λ e. omega arith) (λ e. omega arith)
