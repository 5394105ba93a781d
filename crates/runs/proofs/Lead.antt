-- How many words lead: one by one, and any number at once.
use Prim.Native.Nat.{ℕ, zero, suc, ◌+◌, ◌-◌, ◌/◌, ◌^◌, ◌≤◌, ◌<◌, min}
use mathlib.Core.Path.{◌≡◌, refl}
use mathlib.Core.Bool.{Bool, true, false, cond}
use mathlib.Core.List.{List, [], ◌∷◌}
use native.Mathlib.Omega.{arith}
use native.Mathlib.Nat.{lt_of_not-le}
use native.Mathlib.Numerals.{add-one}
use borrow.Author.Tests.{eqb-true}
use lib.ListN.{length, get_or, drop, drop_of_length-le}
use lib.Seq.{drop-cons, drop-drop}
use Rattle.runs.specs.Runs.{agrees, leading, run_end}

module _ (shift top : ℕ) where
  lead-drop : (n : ℕ) (l : List ℕ) → n ≤ leading shift top l → leading shift top l ≡ n + leading shift top (drop n l)
  unfolding leading
  lead-drop zero l h = omega arith
  lead-drop (suc n) [] h = absurd (omega arith)
  lead-drop (suc n) (w ∷ l) h = by (agrees shift top w) (lead-drop n l) h
    where
      by : (b : Bool) → (n ≤ leading shift top l → leading shift top l ≡ n + leading shift top (drop n l))
          → suc n ≤ cond b (suc (leading shift top l)) 0 → cond b (suc (leading shift top l)) 0 ≡ suc n + leading shift top (drop n l)
      by true rest h = omega (arith, rest (omega arith))
      by false rest h = absurd (omega arith)

  module _ (ws : List ℕ) where
    abbrev pub lead : ℕ → ℕ
    lead at = leading shift top (drop at ws)

    -- past any number of words that lead
    pub lead-past : (n at : ℕ) → n ≤ lead at → lead at ≡ n + lead (at + n)
    lead-past n at h = rw (← drop-drop n at ws) (lead-drop n (drop at ws) h)

    pub run_past : (n at stop : ℕ) → n ≤ lead at → at + n ≤ stop → run_end shift top stop ws (at + n) ≡ run_end shift top stop ws at
    run_past n at stop h inside = omega (arith, lead-past n at h)

    module _ (at : ℕ) (inside : at < length ws) {r : Bool} (is : r ≡ agrees shift top (get_or ws at 0)) where
      -- at a word that agrees
      pub lead-on : r ≡ true → lead at ≡ 1 + lead (at + 1)
      unfolding leading
      lead-on e = rw (add-one, drop-cons ws at 0, ← is, e) (omega arith)

      -- and at one that does not
      pub lead_off : r ≡ false → lead at ≡ 0
      unfolding leading
      lead_off e = rw (drop-cons ws at 0, ← is, e)

    -- a word of a run is there, and agrees
    pub in_run : (from k : ℕ) → k < lead from → (from + k < length ws) × (get_or ws (from + k) 0 / 2 ^ shift ≡ top)
    unfolding leading
    in_run from k h = (there, eqb-true _ top (by (agrees shift top (get_or ws (from + k) 0)) refl))
      where
        here : 1 ≤ lead (from + k)
        here = omega (arith, lead-past k from (omega arith))

        over : length ws ≤ from + k → lead (from + k) ≡ 0
        over h = rw (drop_of_length-le ws h)

        there : from + k < length ws
        there = lt_of_not-le (λ le. omega (arith, here, over le))

        by : (b : Bool) → agrees shift top (get_or ws (from + k) 0) ≡ b → agrees shift top (get_or ws (from + k) 0) ≡ true
        by true e = e
        by false e = absurd (omega (arith, here, lead_off (from + k) there refl e))

    -- no run goes past the words
    pub cut : (end from : ℕ) {stop : ℕ} → stop ≡ min end (length ws) → run_end shift top stop ws from ≡ run_end shift top end ws from
    cut end from e =
        let fits : lead from < length ws - from + 1 = lt_of_not-le (λ h. omega (arith, (in_run from (length ws - from) (omega arith)).0)) in
        omega arith
