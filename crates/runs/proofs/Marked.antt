-- The marks of words: by one word more at either end, of two parts, and what the lowest of them says.
use Prim.Native.Nat.{ℕ, zero, suc, ◌+◌, ◌-◌, ◌*◌, ◌/◌, ◌%◌, ◌^◌, ◌≤◌, ◌<◌, min}
use mathlib.Core.Path.{◌≡◌, refl, ◌∙◌, ap, ap₂}
use mathlib.Core.Bool.{Bool, true, false, cond}
use mathlib.Core.List.{List}
use native.Mathlib.Omega.{arith}
use native.Mathlib.Nat.{pow-suc, add-mul, mul_assoc, mul_comm, add-zero, add-suc, div-div-eq-div-mul, pow-succ'}
use native.Mathlib.Numerals.{add-one}
use borrow.Author.Tests.{eqb-true, le-leb, lt-leb}
use lib.ListN.{length, get_or}
use lib.Pow.{pow-add, shr_le}
use lib.Bits.{bit_or, or_shifted_r}
use lib.Count.{count_trailing_zeros, under}
use Rattle.runs.specs.Runs.{agrees, marks, marks_from}
use Rattle.runs.proofs.Lead.{lead, lead-on, lead_off}

-- the zeros below the lowest bit, of a number of more than one
even : (d x : ℕ) → count_trailing_zeros (suc d) (2 * x) ≡ suc (count_trailing_zeros d x)
unfolding count_trailing_zeros
even d x =
    let low : 2 * x % 2 ≡ 0 = omega arith in
    let high : 2 * x / 2 ≡ x = omega arith in
    rw (low, high)

odd : (d x : ℕ) → count_trailing_zeros (suc d) (1 + 2 * x) ≡ 0
unfolding count_trailing_zeros
odd d x =
    let low : (1 + 2 * x) % 2 ≡ 1 = omega arith in
    rw low

module _ (shift top : ℕ) (ws : List ℕ) where
  -- the mark of a word
  abbrev pub mark : ℕ → ℕ
  mark i = cond (agrees shift top (get_or ws i 0)) 0 1

  small : (i : ℕ) → mark i < 2
  small i = by (agrees shift top (get_or ws i 0))
    where
      by : (b : Bool) → cond {A = ℕ} b 0 1 < 2
      by true = omega arith
      by false = omega arith

  unmarked : (i : ℕ) → mark i ≡ 0 → get_or ws i 0 / 2 ^ shift ≡ top
  unmarked i e = eqb-true _ top (by (agrees shift top (get_or ws i 0)) refl e)
    where
      by : (b : Bool) → agrees shift top (get_or ws i 0) ≡ b → cond {A = ℕ} b 0 1 ≡ 0 → agrees shift top (get_or ws i 0) ≡ true
      by true is e = is
      by false is e = absurd (omega arith)

  pub marks_lt : (from n : ℕ) → marks shift top ws from n < 2 ^ n
  unfolding marks
  marks_lt from zero = omega arith
  marks_lt from (suc n) =
      let below = marks_lt from n in
      by (mark (from + n)) (small (from + n)) below
    where
      by : (b : ℕ) → b < 2 → marks shift top ws from n < 2 ^ n → marks shift top ws from n + b * 2 ^ n < 2 ^ suc n
      by zero h below = rw (pow-suc 2 n) (omega arith)
      by (suc zero) h below = rw (pow-suc 2 n) (omega arith)
      by (suc (suc b)) h below = absurd (omega arith)

  -- of 58 words, where there are so many and where there are not
  pub marks-there : (from : ℕ) → from + 58 ≤ length ws → marks_from shift top ws from ≡ marks shift top ws from 58
  marks-there from h = rw (le-leb (from + 58) (length ws) h)

  pub marks_missing : (from : ℕ) → length ws < from + 58 → marks_from shift top ws from ≡ 0
  marks_missing from h = rw (lt-leb (from + 58) (length ws) h)

  -- by one word more
  module _ (from n : ℕ) {m : ℕ} {r : Bool} (is : m ≡ marks shift top ws from n) (here : r ≡ agrees shift top (get_or ws (from + n) 0)) where
    pub marks-on : r ≡ true → m ≡ marks shift top ws from (n + 1)
    unfolding marks
    marks-on e = rw (add-one, ← here, e, is) (omega arith)

    pub marks_off : r ≡ false → bit_or m (1 * 2 ^ n) ≡ marks shift top ws from (n + 1)
    unfolding marks
    marks_off e = or_shifted_r 1 n m (rw is (marks_lt from n)) ∙ rw (add-one, ← here, e, is) (omega arith)

  -- of two parts
  pub marks_join : (from a b : ℕ) → marks shift top ws from a + marks shift top ws (from + a) b * 2 ^ a ≡ marks shift top ws from (a + b)
  unfolding marks
  marks_join from a zero = rw (add-zero a) (omega arith)
  marks_join from a (suc b) =
      let on = marks_join from a b in
      let place : from + a + b ≡ from + (a + b) = omega arith in
      rw (add-suc a b, place, add-mul (marks shift top ws (from + a) b) (mark (from + (a + b)) * 2 ^ b) (2 ^ a), pow-add 2 a b)
      (omega (arith, mul_assoc (mark (from + (a + b))) (2 ^ b) (2 ^ a), mul_comm (2 ^ a) (2 ^ b)))

  -- the lowest is the first word's
  marks-low : (from n : ℕ) → marks shift top ws from (suc n) ≡ mark from + 2 * marks shift top ws (from + 1) n
  unfolding marks
  marks-low from zero = rw (add-zero from) (omega arith)
  marks-low from (suc n) =
      let on = marks-low from n in
      let place : from + suc n ≡ from + 1 + n = omega arith in
      rw (on, place, pow-suc 2 n) (omega (arith, mul_assoc (mark (from + 1 + n)) (2 ^ n) 2))

  -- past any number of words
  pub marks-after : (k from n : ℕ) → marks shift top ws from n / 2 ^ k ≡ marks shift top ws (from + k) (n - k)
  unfolding marks
  marks-after zero from n =
      let all : n - 0 ≡ n = omega arith in
      rw (add-zero from, all) (omega arith)
  marks-after (suc k) from zero =
      let none : 0 - suc k ≡ 0 = omega arith in
      rw none (omega (arith, shr_le 0 (suc k)))
  marks-after (suc k) from (suc n) =
      let half : marks shift top ws from (suc n) / 2 ≡ marks shift top ws (from + 1) n = omega (arith, marks-low from n, small from) in
      let place : from + suc k ≡ from + 1 + k = omega arith in
      let left : suc n - suc k ≡ n - k = omega arith in
      rw (left, pow-succ' 2 k, ← div-div-eq-div-mul (marks shift top ws from (suc n)) 2 (2 ^ k), half, place) (marks-after k (from + 1) n)

  -- where there is none, all words agree
  pub marks-none : (from n : ℕ) → marks shift top ws from n ≡ 0 → (i : ℕ) → i < n → get_or ws (from + i) 0 / 2 ^ shift ≡ top
  marks-none from zero e i h = absurd (omega arith)
  marks-none from (suc n) e zero h = rw (add-zero from) (unmarked from (omega (arith, marks-low from n)))
  marks-none from (suc n) e (suc i) h =
      let place : from + suc i ≡ from + 1 + i = omega arith in
      rw place (marks-none (from + 1) n (omega (arith, marks-low from n)) i (omega arith))

  -- and otherwise those before the lowest
  pub record First (from n z : ℕ) : Type 0 where
    pub inside : z < n
    pub before : (i : ℕ) → i < z → get_or ws (from + i) 0 / 2 ^ shift ≡ top

  pub marks-first : (d from n : ℕ) → n ≤ d → 0 < marks shift top ws from n
      → First from n (count_trailing_zeros d (marks shift top ws from n))
  unfolding marks count_trailing_zeros
  marks-first d from zero h some = absurd (omega arith)
  marks-first zero from (suc n) h some = absurd (omega arith)
  marks-first (suc d) from (suc n) h some = by (mark from) refl (marks-first d (from + 1) n (omega arith))
    where
      half : marks shift top ws from (suc n) / 2 ≡ marks shift top ws (from + 1) n
      half = omega (arith, marks-low from n, small from)

      lowest : marks shift top ws from (suc n) % 2 ≡ mark from
      lowest = omega (arith, marks-low from n, small from)

      by : (b : ℕ) → mark from ≡ b
          → (0 < marks shift top ws (from + 1) n → First (from + 1) n (count_trailing_zeros d (marks shift top ws (from + 1) n)))
          → First from (suc n) (under (marks shift top ws from (suc n) % 2) (count_trailing_zeros d (marks shift top ws from (suc n) / 2)))
      by zero e on =
          let rest = on (omega (arith, marks-low from n)) in
          rw (lowest, half, e)
          (record {
            inside = omega (arith, rest.inside);
            before = λ i less. at rest i less;
          })
        where
          at : {z : ℕ} → First (from + 1) n z → (i : ℕ) → i < suc z → get_or ws (from + i) 0 / 2 ^ shift ≡ top
          at rest zero less = rw (add-zero from) (unmarked from e)
          at rest (suc i) less =
              let place : from + suc i ≡ from + 1 + i = omega arith in
              rw place (rest.before i (omega arith))
      by (suc b) e on = rw (lowest, e) (record { inside = omega arith; before = λ i less. absurd (omega arith) })

  -- how many lead of words that are all there, with a bit set above theirs
  pub marks_lead : (d from n : ℕ) → from + n ≤ length ws
      → count_trailing_zeros (n + suc d) (marks shift top ws from n + 2 ^ n) ≡ min n (lead shift top ws from)
  unfolding marks count_trailing_zeros
  marks_lead d from zero h =
      let digits : 0 + suc d ≡ suc d = omega arith in
      rw digits (omega arith)
  marks_lead d from (suc n) h = by (agrees shift top (get_or ws from 0)) refl (marks_lead d (from + 1) n (omega arith))
    where
      inside : from < length ws
      inside = omega arith

      digits : suc n + suc d ≡ suc (n + suc d)
      digits = omega arith

      by : (b : Bool) → agrees shift top (get_or ws from 0) ≡ b
          → count_trailing_zeros (n + suc d) (marks shift top ws (from + 1) n + 2 ^ n) ≡ min n (lead shift top ws (from + 1))
          → count_trailing_zeros (suc n + suc d) (marks shift top ws from (suc n) + 2 ^ suc n) ≡ min (suc n) (lead shift top ws from)
      by true e rest =
          let none : mark from ≡ 0 = ap (λ (b : Bool). cond {A = ℕ} b 0 1) e in
          let sum : marks shift top ws from (suc n) + 2 ^ suc n ≡ 2 * (marks shift top ws (from + 1) n + 2 ^ n) =
          omega (arith, marks-low from n, none, pow-suc 2 n) in
          ap₂ count_trailing_zeros digits sum ∙ even (n + suc d) (marks shift top ws (from + 1) n + 2 ^ n)
          ∙ omega (arith, rest, lead-on shift top ws from inside refl e)
      by false e rest =
          let one : mark from ≡ 1 = ap (λ (b : Bool). cond {A = ℕ} b 0 1) e in
          let sum : marks shift top ws from (suc n) + 2 ^ suc n ≡ 1 + 2 * (marks shift top ws (from + 1) n + 2 ^ n) =
          omega (arith, marks-low from n, one, pow-suc 2 n) in
          ap₂ count_trailing_zeros digits sum ∙ odd (n + suc d) (marks shift top ws (from + 1) n + 2 ^ n)
          ∙ omega (arith, lead_off shift top ws from inside refl e)
