-- The digits of a number, one power of ten after the other.
use Prim.Native.Nat.{ℕ, ◌+◌, ◌/◌, ◌%◌, ◌≤◌, ◌<◌}
use mathlib.Core.Path.{◌≡◌}
use mathlib.Core.Bool.{Bool, true, false, cond}
use mathlib.Core.List.{List, [], ◌∷◌, ◌++◌}
use native.Mathlib.Omega.{arith}
use lib.ListN.{length, drop, get_or}
use Rattle.std.proofs.lemmas.List.{drop_more}
use borrow.Author.Tests.{le-leb, lt-leb}
use lib.Dec.{leb}
use Rattle.line.specs.declared.Line.{Line}
use Rattle.line.specs.Lines.{pushed, appended}
use Rattle.line.specs.Text.{digits_by, powers, decimal}

-- a line with the digit of the i-th power where the number reaches it, and then with the digits of the later ones
module _ (l : Line) (n i : ℕ) (h : i < 9) where
  pub shown-more : get_or powers i 0 ≤ n
      → appended (pushed l (48 + n / get_or powers i 0 % 10)) (digits_by (drop (i + 1) powers) n) ≡ appended l (digits_by (drop i powers) n)
  shown-more reached = rw (drop_more powers i 0 h, le-leb (get_or powers i 0) n reached)

  pub hidden-more : n < get_or powers i 0 → appended l (digits_by (drop (i + 1) powers) n) ≡ appended l (digits_by (drop i powers) n)
  hidden-more beyond = rw (drop_more powers i 0 h, lt-leb (get_or powers i 0) n beyond)

-- at most a digit for each power, and the last
shown : (test : Bool) (d : ℕ) (ds : List ℕ) → length (cond test (d ∷ []) [] ++ ds) ≤ length ds + 1
shown true d ds = omega arith
shown false d ds = omega arith

few : (ps : List ℕ) (n : ℕ) → length (digits_by ps n) ≤ length ps + 1
few [] n = omega arith
few (p ∷ ps) n = omega (arith, shown (leb p n) (48 + n / p % 10) (digits_by ps n), few ps n)

pub decimal-length : (n : ℕ) → length (decimal n) ≤ 10
decimal-length = few powers
