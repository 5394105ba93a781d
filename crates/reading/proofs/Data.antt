-- The clocks of a pair's data by its two words: LAL alone says whether there are any, and RDA whether they are a read's.
use Prim.Native.Nat.{ℕ, ◌/◌, ◌≤◌}
use mathlib.Core.Path.{◌≡◌, refl}
use mathlib.Core.Bool.{Bool, true, false, cond, not}
use native.Mathlib.Omega.{arith}
use Rattle.config.specs.declared.Timing.{Timing}
use Rattle.command.specs.Pins.{high}
use Rattle.command.specs.Pairs.{rda, lal}
use Rattle.command.specs.declared.operation.Operation.{Operation}
use Rattle.command.specs.declared.operation.Operation.TheVariants.{Access, Regular, Extended, Refresh}
use Rattle.reading.specs.Reading.{access_of, mode_by, operation_of, latency_of, burst_of}

module _ (t : Timing) where
  -- a figure that modes and refreshes do not have
  by-words : (f : Operation → ℕ) → ((a3 : Bool) → f (Regular a3) ≡ 0) → ((v : ℕ) → f (Extended v) ≡ 0) → f Refresh ≡ 0
      → (first second : ℕ)
      → f (operation_of t first second) ≡ cond (lal second) (f (Access (access_of t (not (rda first)) first second))) 0
  by-words f regular extended refresh first second = by (lal second) (rda first) (high 14 second)
    where
      access : Operation
      access = Access (access_of t (not (rda first)) first second)

      by : (l r m : Bool) → f (cond l access (cond r (mode_by m second) Refresh)) ≡ cond l (f access) 0
      by true r m = refl
      by false true true = extended _
      by false true false = regular _
      by false false m = refresh

  pub latency_by : (first second : ℕ)
      → latency_of t (operation_of t first second) ≡ cond (lal second) (cond (not (rda first)) t.wl t.cl) 0
  latency_by = by-words (latency_of t) (λ a3. refl) (λ v. refl) refl

  pub burst_by : (first second : ℕ) → burst_of t (operation_of t first second) ≡ cond (lal second) (t.bl / 2) 0
  burst_by = by-words (burst_of t) (λ a3. refl) (λ v. refl) refl

  pub burst_bound : (o : Operation) → burst_of t o ≤ t.bl / 2
  burst_bound (Access r) = omega arith
  burst_bound (Regular a3) = omega arith
  burst_bound (Extended v) = omega arith
  burst_bound Refresh = omega arith
