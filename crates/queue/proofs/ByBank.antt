-- The totals of a list of requests: each is found at its bank.
use Prim.Native.Nat.{ℕ, zero, suc, ◌+◌, ◌<◌}
use mathlib.Core.Path.{◌≡◌, refl, ◌∙◌, ap}
use mathlib.Core.Bool.{Bool, true, false}
use mathlib.Core.List.{List}
use native.Mathlib.Omega.{arith}
use borrow.Author.Tests.{eqb-true, eqb-false, eq-eqb}
use lib.ListN.{get_or}
use lib.Dec.{eqb}
use Rattle.config.proofs.Bounds.{both}
use Rattle.command.specs.declared.operation.Request.{Request}
use Rattle.queue.specs.Totals.{for_bank, totals_from, totals_of, AreTotals, all_below, same_totals}

total-at : (n k i : ℕ) (rs : List Request) → i < n → get_or (totals_from k n rs) i 0 ≡ for_bank (k + i) rs
total-at zero k i rs h = absurd (omega arith)
total-at (suc n) k zero rs h =
    let at : k + 0 ≡ k = omega arith in
    rw at
total-at (suc n) k (suc i) rs h =
    let at : suc k + i ≡ k + suc i = omega arith in
    total-at n (suc k) i rs (omega arith) ∙ ap (λ b. for_bank b rs) at

-- totals that are counted are right
pub are_totals : (rs : List Request) → AreTotals (totals_of rs) rs
are_totals rs b h =
    let at : 0 + b ≡ b = omega arith in
    total-at 8 0 b rs h ∙ ap (λ b. for_bank b rs) at

below : (n : ℕ) (p : ℕ → Bool) → all_below n p ≡ true → (b : ℕ) → b < n → p b ≡ true
below zero p e b h = absurd (omega arith)
below (suc n) p e b h = by (eqb b n) refl (below n p (both (all_below n p) (p n) e).0 b)
  where
    by : (x : Bool) → eqb b n ≡ x → (b < n → p b ≡ true) → p b ≡ true
    by true at less = ap p (eqb-true b n at) ∙ (both (all_below n p) (p n) e).1
    by false at less =
        let other = eqb-false b n at in
        less (omega arith)

-- totals that are the same as those are right too
pub same_are_totals : (ts : List ℕ) (rs : List Request) → same_totals ts (totals_of rs) ≡ true → AreTotals ts rs
same_are_totals ts rs e b h =
    eqb-true _ _ (below 8 (λ b. eqb (get_or ts b 0) (get_or (totals_of rs) b 0)) e b h) ∙ are_totals rs b h

-- any totals are the same as themselves
pub same_self : (ts : List ℕ) → same_totals ts ts ≡ true
same_self ts =
    let same : (n : ℕ) → eqb n n ≡ true = λ n. eq-eqb n n refl in
    simp same
