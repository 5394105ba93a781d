-- One turn of a walk, by what its advance gave.
use Prim.Native.Nat.{ℕ, suc, ◌+◌, ◌-◌, ◌<◌}
use mathlib.Core.Path.{◌≡◌}
use mathlib.Core.Bool.{true, false}
use mathlib.Core.List.{List}
use native.Mathlib.Omega.{arith}
use Rattle.checker.specs.declared.checker.Checker.{Checker}
use Rattle.walks.specs.Walk.{Move, move_of}
use Rattle.bulk.specs.Walks.{is_pass, walk_from}

module _ (s : Checker) (ws : List ℕ) (m : Move) (is : move_of s ws ≡ m) (n i : ℕ) (h : i < n) where
  pub stops : is_pass m.outcome ≡ false → walk_from (n - i) s ws ≡ m
  stops e =
      let left : n - i ≡ suc (n - (i + 1)) = omega arith in
      rw (left, is, e)

  pub leads : is_pass m.outcome ≡ true → walk_from (n - i) s ws ≡ walk_from (n - (i + 1)) m.after ws
  leads e =
      let left : n - i ≡ suc (n - (i + 1)) = omega arith in
      rw (left, is, e)
