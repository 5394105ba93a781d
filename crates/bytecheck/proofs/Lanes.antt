-- The lanes of a read or write, by bits of its two words as one number.
use Prim.Native.Nat.{ℕ, zero, suc, ◌+◌, ◌*◌, ◌/◌, ◌%◌, ◌^◌, ◌<◌}
use mathlib.Core.Path.{◌≡◌, refl, sym, ◌∙◌, ap}
use mathlib.Core.Bool.{Bool, true, false, not, ◌&&◌, ◌||◌}
use native.Mathlib.Omega.{arith}
use native.Mathlib.Nat.{mod-lt}
use borrow.Author.Tests.{eqb-false}
use lib.Dec.{eqb}
use lib.Bits.{bit_and, and_block, and_high}
use lib.Pow.{split, pow_pos, shr-shr, field, mod-pow-add}
use Rattle.config.specs.declared.Timing.{Timing}
use Rattle.command.specs.Pins.{high}
use Rattle.command.specs.Pairs.{rda}
use Rattle.reading.specs.Reading.{lane_reserved}
use Rattle.bytecheck.specs.Pairs.{limits_of, Clear}

-- the bits of a mask in a pair, of its two words
of_words : (pair a b : ℕ) → b < 2 ^ 32 → bit_and pair (a * 2 ^ 32 + b) ≡ bit_and (pair / 2 ^ 32) a * 2 ^ 32 + bit_and (pair % 2 ^ 32) b
of_words pair a b h =
    ap (λ p. bit_and p (a * 2 ^ 32 + b)) (sym (split pair 32))
    ∙ and_block 32 (pair / 2 ^ 32) a (pair % 2 ^ 32) b (mod-lt pair (pow_pos 32)) h

lower_bits : (w : ℕ) → w / 2 ^ 16 % 2 ≡ 0 → w / 2 ^ 13 % 2 ≡ 0 → bit_and w 0x12000 ≡ 0
lower_bits w e16 e13 =
    let parts =
    ap (λ p. bit_and p 0x12000) (sym (split w 14))
    ∙ and_block 14 (w / 2 ^ 14) 4 (w % 2 ^ 14) 0x2000 (mod-lt w (pow_pos 14)) (omega arith) in
    let p16 : w / 2 ^ 14 / 2 ^ 2 % 2 ^ 1 ≡ 0 = rw (shr-shr w 14 2) e16 in
    let p13 : w % 2 ^ 14 / 2 ^ 13 % 2 ^ 1 ≡ 0 = rw (field w 1 13, e13) in
    let high : bit_and (w / 2 ^ 14) 4 ≡ 0 = and_high (w / 2 ^ 14) 1 2 ∙ rw p16 in
    let low : bit_and (w % 2 ^ 14) 0x2000 ≡ 0 = and_high (w % 2 ^ 14) 1 13 ∙ rw p13 in
    parts ∙ rw (high, low)

upper_bits : (w : ℕ) → w / 2 ^ 12 % 2 ≡ 0 → w / 2 ^ 11 % 2 ≡ 0 → bit_and w 0x1800 ≡ 0
upper_bits w e12 e11 =
    let pins : w / 2 ^ 11 % 2 ^ 2 ≡ 0 = mod-pow-add (w / 2 ^ 11) 1 1 ∙ rw (shr-shr w 11 1, e12, e11) in
    and_high w 2 11 ∙ rw pins

fn_bit : (first : ℕ) → first / 2 ^ 17 % 2 ≡ 0 → bit_and first 0x20000 ≡ 0
fn_bit first e = omega (arith, and_high first 1 17)

low_pin : (x : ℕ) → eqb (x % 2) 1 ≡ false → x % 2 ≡ 0
low_pin x e = by (x % 2) refl (eqb-false (x % 2) 1 e)
  where
    by : (r : ℕ) → x % 2 ≡ r → (x % 2 ≡ 1 → ⊥) → x % 2 ≡ 0
    by zero is other = is
    by (suc zero) is other = absurd (other is)
    by (suc (suc r)) is other = absurd (omega arith)

-- a lane by its two pins and FN, none of which is high
lane-by : (fn a b : ℕ) → (fn % 2 ≡ 0 → a % 2 ≡ 0 → b % 2 ≡ 0 → ⊥)
    → not (eqb (fn % 2) 1) && (not (eqb (a % 2) 1) && not (eqb (b % 2) 1)) ≡ false
lane-by fn a b some = by (eqb (fn % 2) 1) refl (eqb (a % 2) 1) refl (eqb (b % 2) 1) refl
  where
    by : (x : Bool) → eqb (fn % 2) 1 ≡ x → (y : Bool) → eqb (a % 2) 1 ≡ y → (z : Bool) → eqb (b % 2) 1 ≡ z
        → not x && (not y && not z) ≡ false
    by true x y b z c = refl
    by false x true b z c = refl
    by false x false b true c = refl
    by false x false y false z = absurd (some (low_pin fn x) (low_pin a y) (low_pin b z))

-- by which no lane is reserved
reserved-by : (write lal four sixteen lower upper : Bool) → (four ≡ true → write && lower ≡ false)
    → (four ≡ true → sixteen ≡ true → write && upper ≡ false) → (write && lal) && (four && (lower || sixteen && upper)) ≡ false
reserved-by false lal four sixteen lower upper l u = refl
reserved-by true false four sixteen lower upper l u = refl
reserved-by true true false sixteen lower upper l u = refl
reserved-by true true true false lower upper l u = rw (l refl)
reserved-by true true true true lower upper l u = rw (l refl) (u refl refl)

pub unreserved : (t : Timing) {bank allowed k pair : ℕ} → Clear (limits_of t) bank allowed k pair
    → lane_reserved t (pair % 2 ^ 32) (pair / 2 ^ 32) ≡ false
unreserved t {pair = pair} clear =
    reserved-by (not (rda first)) (high 18 w) (eqb t.bl 4) (eqb t.organisation 16) (not (high 16 w) && not (high 13 w))
    (not (high 12 w) && not (high 11 w))
    (λ four. lane-by (first / 2 ^ 17) (w / 2 ^ 16) (w / 2 ^ 13)
    (λ fn a b. rw four at clear.lower (of_words pair 0x12000 0x20000 (omega arith) ∙ rw (lower_bits w a b, fn_bit first fn))))
    (λ four sixteen. lane-by (first / 2 ^ 17) (w / 2 ^ 12) (w / 2 ^ 11)
    (λ fn a b. rw (four, sixteen) at clear.upper (of_words pair 0x1800 0x20000 (omega arith) ∙ rw (upper_bits w a b, fn_bit first fn))))
  where
    first : ℕ
    first = pair % 2 ^ 32

    w : ℕ
    w = pair / 2 ^ 32
