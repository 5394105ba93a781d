-- A level is a number of one bit.
use Prim.Native.Nat.{◌≤◌}
use mathlib.Core.Bool.{Bool, true, false}
use lib.Dec.{lit≤}
use Rattle.command.specs.Pins.{level}

pub level-bound : (b : Bool) → level b ≤ 1
level-bound true = lit≤ tt
level-bound false = lit≤ tt
