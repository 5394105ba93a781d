-- What the words of a written access show on their pins.
use Prim.Native.Nat.{ℕ, ◌+◌, ◌*◌, ◌≤◌, ◌<◌, ◌/◌, ◌%◌, ◌^◌}
use mathlib.Core.Path.{◌≡◌, sym, ◌∙◌}
use mathlib.Core.Bool.{Bool, true, false, not}
use native.Mathlib.Omega.{arith}
use native.Mathlib.Nat.{mod-lt}
use borrow.Author.Tests.{leb-true, lt-leb}
use lib.Dec.{leb, lit<}
use Rattle.config.proofs.Bounds.{both}
use Rattle.command.specs.Pins.{pins, high, put, drive, stray_bit}
use Rattle.command.specs.Address.{bank_of, row_of, address_fits, address_at}
use Rattle.command.proofs.Levels.{level-bound}
use Rattle.roundtrip.proofs.Levels.{high_is, pins-split}

-- RDA or WRA, with four banks (true) or eight
pub record First (four write : Bool) (b r w : ℕ) : Type 0 where
  pub stray : stray_bit w ≡ false
  pub pd : high 19 w ≡ true
  pub cs : high 18 w ≡ false
  pub fn : high 17 w ≡ not write
  pub bank : bank_of four w ≡ b
  pub row : row_of four w ≡ r

-- with these numbers on BA0 to BA2 and on A0 to A13
eight-banks : (write : Bool) (b r : ℕ) → b ≤ 7 → r ≤ 16383 → First false write b r (2 ^ 19 + drive 17 (not write) + (b * 2 ^ 14 + r))
eight-banks write b r b≤7 r≤16383 =
    let l = level-bound (not write) in
    let w = 2 ^ 19 + drive 17 (not write) + (b * 2 ^ 14 + r) in
    record {
      stray = lt-leb (2 ^ 20) w (omega arith);
      pd = high_is 19 w true (omega arith);
      cs = high_is 18 w false (omega arith);
      fn = high_is 17 w (not write) (omega arith);
      bank = omega arith;
      row = omega arith;
    }

-- BA2, and BA0 with BA1
bank-pins : (w h b : ℕ) → b < 4 → pins 14 3 w ≡ h * 4 + b → (pins 16 1 w ≡ h) × (pins 14 2 w ≡ b)
bank-pins w h b small e = parts (pins 16 1 w) (pins 14 2 w) (mod-lt (w / 2 ^ 14) (lit< tt)) (sym (pins-split 14 1 2 w) ∙ e)
  where
    parts : (p q : ℕ) → q < 4 → p * 4 + q ≡ h * 4 + b → (p ≡ h) × (q ≡ b)
    parts p q l s = omega arith

pub first_word : (four write : Bool) (bank row : ℕ) → address_fits four bank row ≡ true
    → First four write bank row (2 ^ 19 + drive 17 (not write) + address_at four bank row)
first_word false write bank row e =
    let h = both (leb bank 7) (leb row 16383) e in
    let b = leb-true bank 7 h.0 in
    let r = leb-true row 16383 h.1 in
    let same : bank * 2 ^ 14 + row ≡ address_at false bank row = omega arith in
    rw same at (eight-banks write bank row b r)
first_word true write bank row e =
    let h = both (leb bank 3) (leb row 32767) e in
    let b = leb-true bank 3 h.0 in
    let r = leb-true row 32767 h.1 in
    let low = row % 2 ^ 14 in
    let top = row / 2 ^ 14 in
    let same : (top * 4 + bank) * 2 ^ 14 + low ≡ address_at true bank row = omega arith in
    let f = rw same at (eight-banks write (top * 4 + bank) low (omega arith) (omega arith)) in
    let p = bank-pins _ top bank (omega arith) f.bank in
    record {
      stray = f.stray;
      pd = f.pd;
      cs = f.cs;
      fn = f.fn;
      bank = p.1;
      row = rw (p.0, f.row) (omega arith);
    }

-- LAL
abbrev pub second_word : ℕ → Bool → Bool → Bool → Bool → ℕ
second_word column v₀ v₁ u₀ u₁ = 2 ^ 19 + 2 ^ 18 + put 0 9 column + (drive 16 v₀ + drive 13 v₁) + (drive 12 u₀ + drive 11 u₁)

pub record Second (column : ℕ) (v₀ v₁ u₀ u₁ : Bool) (w : ℕ) : Type 0 where
  pub stray : stray_bit w ≡ false
  pub pd : high 19 w ≡ true
  pub cs : high 18 w ≡ true
  pub lower₀ : high 16 w ≡ v₀
  pub lower₁ : high 13 w ≡ v₁
  pub upper₀ : high 12 w ≡ u₀
  pub upper₁ : high 11 w ≡ u₁
  pub wide : column ≤ 255 → pins 0 8 w ≡ column
  pub narrow : pins 0 9 w ≡ column

pub second_word_lem : (column : ℕ) (v₀ v₁ u₀ u₁ : Bool) → column ≤ 511 → Second column v₀ v₁ u₀ u₁ (second_word column v₀ v₁ u₀ u₁)
second_word_lem column v₀ v₁ u₀ u₁ h =
    let a = level-bound v₀ in
    let b = level-bound v₁ in
    let c = level-bound u₀ in
    let d = level-bound u₁ in
    let w = second_word column v₀ v₁ u₀ u₁ in
    record {
      stray = lt-leb (2 ^ 20) w (omega arith);
      pd = high_is 19 w true (omega arith);
      cs = high_is 18 w true (omega arith);
      lower₀ = high_is 16 w v₀ (omega arith);
      lower₁ = high_is 13 w v₁ (omega arith);
      upper₀ = high_is 12 w u₀ (omega arith);
      upper₁ = high_is 11 w u₁ (omega arith);
      wide = λ s. omega arith;
      narrow = omega arith;
    }
