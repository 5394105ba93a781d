-- A pin's level and the test whether it is high are two forms of one thing.
use Prim.Native.Nat.{ℕ, zero, suc, ◌+◌, ◌*◌, ◌<◌, ◌/◌, ◌^◌}
use mathlib.Core.Path.{◌≡◌, refl, ◌∙◌}
use mathlib.Core.Bool.{Bool, true, false}
use native.Mathlib.Omega.{arith}
use native.Mathlib.Nat.{mod-lt, mod-mod}
use lib.Pow.{mod-pow-add, shr-shr}
use borrow.Author.Tests.{eq-eqb, ne_eqb}
use lib.Dec.{eqb, lit<}
use Rattle.command.specs.Pins.{pins, high, put, level}

pub high_is : (n w : ℕ) (b : Bool) → pins n 1 w ≡ level b → high n w ≡ b
high_is n w true e = eq-eqb (pins n 1 w) 1 e
high_is n w false e = ne_eqb (pins n 1 w) 1 (λ q. omega arith)

level-of : (k : ℕ) → k < 2 → level (eqb k 1) ≡ k
level-of zero h = refl
level-of (suc zero) h = refl
level-of (suc (suc k)) h = omega arith

pub level-high : (n w : ℕ) → level (high n w) ≡ pins n 1 w
level-high n w = level-of (pins n 1 w) (mod-lt (w / 2 ^ n) (lit< tt))

-- pins put back where they were, and pins in two parts
pub put-pins : (n k w : ℕ) → put n k (pins n k w) ≡ pins n k w * 2 ^ n
put-pins n k w = rw mod-mod

pub pins-split : (n j k w : ℕ) → pins n (j + k) w ≡ pins (n + k) j w * 2 ^ k + pins n k w
pins-split n j k w = mod-pow-add (w / 2 ^ n) j k ∙ rw shr-shr
