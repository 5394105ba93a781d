-- The loop that counts the waiting requests by bank. One request more raises the total of its bank and no other, and none where its bank
-- is past the eighth. No total is above the number of requests, so no sum wraps.
use Prim.Native.Nat.{ℕ, zero, suc, ◌+◌, ◌≤◌, ◌<◌}
use mathlib.Core.Path.{◌≡◌, refl, ◌∙◌, ap}
use mathlib.Core.List.{List, [], ◌∷◌, ◌++◌}
use native.Mathlib.Nat.{add-zero, zero-add}
use native.Mathlib.Numerals.{add-one}
use native.Mathlib.Omega.{arith}
use borrow.Author.Tests.{eq-eqb, ne_eqb}
use Rattle.std.proofs.lemmas.List.Sums.{sum_by-append}
use mathlib.Core.Bool.{cond}
use lib.Dec.{eqb}
use lib.ListN.{length, get_or, set, take}
use lib.Seq.{take-suc}
use Rattle.command.specs.declared.operation.Request.{Request}
use Rattle.queue.specs.Queue.{vacant}
use Rattle.queue.specs.Totals.{for_bank, totals_from, totals_of}

module _ (rs : List Request) (r : Request) where
  -- it counts for its bank
  more : (k : ℕ) → for_bank k (rs ++ (r ∷ [])) ≡ for_bank k rs + cond (eqb r.bank k) 1 0
  more k = sum_by-append (λ x. cond (eqb x.bank k) 1 0) rs (r ∷ []) ∙ ap (λ n. for_bank k rs + n) (zero-add (cond (eqb r.bank k) 1 0))

  -- its bank is none of these
  unraised : (n k : ℕ) → ((b : ℕ) → k ≤ b → b < k + n → r.bank ≡ b → ⊥) → totals_from k n rs ≡ totals_from k n (rs ++ (r ∷ []))
  unraised zero k h = refl
  unraised (suc n) k h =
      rw (more k, ne_eqb r.bank k (h k (omega arith) (omega arith)), add-zero (for_bank k rs))
      (ap (λ ts. for_bank k rs ∷ ts) (unraised n (suc k) (λ b l u. h b (omega arith) (omega arith))))

  -- its bank is the one at place i
  raised : (n k i : ℕ) → r.bank ≡ k + i → i < n
      → set (totals_from k n rs) i (get_or (totals_from k n rs) i 0 + 1) ≡ totals_from k n (rs ++ (r ∷ []))
  raised zero k i e h = absurd (omega arith)
  raised (suc n) k zero e h =
      rw (more k, eq-eqb r.bank k (omega arith))
      (ap (λ ts. (for_bank k rs + 1) ∷ ts) (unraised n (suc k) (λ b l u q. omega arith)))
  raised (suc n) k (suc i) e h =
      rw (more k, ne_eqb r.bank k (λ q. omega arith), add-zero (for_bank k rs))
      (ap (λ ts. for_bank k rs ∷ ts) (raised n (suc k) i (omega arith) (omega arith)))

module _ (w : List Request) (i : ℕ) (h : i < length w) where
  -- a turn, where the bank has a total
  pub counts-one : let r = get_or w i vacant in let ts = totals_of (take i w) in
      r.bank < 8 → set ts r.bank (get_or ts r.bank 0 + 1) ≡ totals_of (take (i + 1) w)
  counts-one low =
      let r = get_or w i vacant in
      rw (add-one i, take-suc w i vacant h) (raised (take i w) r 8 0 r.bank (omega arith) low)

  -- and where it has none
  pub counts-none : 8 ≤ (get_or w i vacant).bank → totals_of (take i w) ≡ totals_of (take (i + 1) w)
  counts-none past = rw (add-one i, take-suc w i vacant h) (unraised (take i w) (get_or w i vacant) 8 0 (λ b l u q. omega arith))
