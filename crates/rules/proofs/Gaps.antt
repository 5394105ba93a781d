-- If each REF word is at most D after the one before it, and k at most D after the last, then k is at most m × D after the m-th last.
use Prim.Native.Nat.{ℕ, zero, suc, ◌+◌, ◌-◌, ◌*◌, ◌≤◌, min}
use mathlib.Core.Path.{◌≡◌, refl}
use mathlib.Core.Bool.{false, ◌&&◌, and-false}
use mathlib.Core.List.{List, [], ◌∷◌}
use native.Mathlib.Omega.{arith}
use native.Mathlib.Nat.{suc-mul}
use borrow.Author.Tests.{le-ltb}
use lib.ListN.{length, get_or}
use lib.Dec.{leb, ltb}
use Rattle.config.specs.declared.Timing.{Timing}
use Rattle.rules.specs.History.{Past}
use Rattle.rules.specs.Rules.{closings, was_refresh, rule3}

-- each clock of a list is at most D after the one behind it
abbrev pub Gaps : ℕ → List ℕ → Type 0
Gaps D [] = Unit {0}
Gaps D (k ∷ []) = Unit {0}
Gaps D (k ∷ j ∷ js) = (k ≤ j + D) × Gaps D (j ∷ js)

pub gaps-behind : (D k : ℕ) (ks : List ℕ) → Gaps D (k ∷ ks) → Gaps D ks
gaps-behind D k [] g = tt
gaps-behind D k (j ∷ js) g = g.1

pub gaps_cons : (D k : ℕ) (ks : List ℕ) → k ≤ get_or ks 0 0 + D → Gaps D ks → Gaps D (k ∷ ks)
gaps_cons D k [] h g = tt
gaps_cons D k (j ∷ js) h g = (h, g)

-- from one clock to the i-th behind it
reach : (D k : ℕ) (ks : List ℕ) → Gaps D (k ∷ ks) → (i : ℕ) → i ≤ length ks → k ≤ get_or (k ∷ ks) i 0 + i * D
reach D k ks g zero h = omega arith
reach D k [] g (suc i) h = absurd (omega arith)
reach D k (j ∷ js) g (suc i) h = omega (arith, g.0, reach D j js g.1 i (omega arith), suc-mul i D)

-- so rule 3 is kept at k
pub short-gaps : (t : Timing) (p : Past) (w : ℕ) → Gaps t.refi (p.clock ∷ closings was_refresh p.pairs) → rule3 t p w ≡ false
short-gaps t p w g = by (min (length refs) 8) (omega arith)
  where
    refs : List ℕ
    refs = closings was_refresh p.pairs

    by : (m : ℕ) → m ≤ length refs → (leb 1 m && ltb (m * t.refi) (p.clock - get_or refs (m - 1) 0)) ≡ false
    by zero h = refl
    by (suc i) h =
        let place : suc i - 1 ≡ i = omega arith in
        let near = reach t.refi p.clock refs g (suc i) h in
        rw (place, le-ltb (suc i * t.refi) (p.clock - get_or refs i 0) (omega arith)) (and-false (leb 1 (suc i)))
