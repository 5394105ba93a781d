-- A pair with no bit above 19 is sound or not by the pins that `Ignored` names alone.
use Prim.Native.Nat.{ℕ, ◌+◌, ◌/◌, ◌%◌, ◌^◌}
use mathlib.Core.Path.{◌≡◌, refl}
use mathlib.Core.Bool.{Bool, true, false, not, ◌&&◌, ◌||◌}
use mathlib.Core.List.{List, [], ◌∷◌}
use mathlib.Core.Logic.{◌⊎◌, inl, inr}
use native.Mathlib.Omega.{arith}
use native.Mathlib.Nat.{mod-mod}
use borrow.Author.Tests.{lt-leb}
use lib.Dec.{eqb}
use lib.Pow.{shr-shr}
use Rattle.config.specs.Configuration.{derived}
use Rattle.config.specs.declared.Config.{Config}
use Rattle.config.specs.declared.Timing.{Timing}
use Rattle.command.specs.Pins.{pins, put, high, stray_bit}
use Rattle.command.specs.Pairs.{rda, lal, is_mode, is_write}
use Rattle.reading.specs.Reading.{register_fits, mode_fits, reserved, mode_wrong, lane_reserved, sound_pair}
use Rattle.roundtrip.specs.Ignored.{Pins, only, first_pins, second_pins}

-- a word of any numbers on these pins, of which `only` is the one that has them from a word
abbrev sum : List Pins → (ℕ → ℕ → ℕ) → ℕ
sum [] x = 0
sum (p ∷ ps) x = put p.from p.count (x p.from p.count) + sum ps x

of_word : (ps : List Pins) (w : ℕ) → sum ps (λ n k. pins n k w) ≡ only ps w
of_word [] w = refl
of_word (p ∷ ps) w = rw (of_word ps w)

-- the word v shows the numbers put on it: in every word, in a first, in a mode's second, and on the lanes at BL 4
record Word (x : ℕ → ℕ → ℕ) (v : ℕ) : Type 0 where
  cs : pins 18 1 v ≡ x 18 1 % 2
  pd : pins 19 1 v ≡ x 19 1 % 2
  stray : stray_bit v ≡ false

record First (x : ℕ → ℕ → ℕ) (v : ℕ) : Type 0 where
  word : Word x v
  fn : pins 17 1 v ≡ x 17 1 % 2

record Mode (x : ℕ → ℕ → ℕ) (v : ℕ) : Type 0 where
  word : Word x v
  address : pins 0 14 v ≡ x 0 14 % 2 ^ 14
  bank : pins 14 3 v ≡ x 14 3 % 2 ^ 3

record Lower (x : ℕ → ℕ → ℕ) (v : ℕ) : Type 0 where
  word : Word x v
  vw0 : pins 16 1 v ≡ x 16 1 % 2
  vw1 : pins 13 1 v ≡ x 13 1 % 2

record Lanes (x : ℕ → ℕ → ℕ) (v : ℕ) : Type 0 where
  lower : Lower x v
  vw0 : pins 12 1 v ≡ x 12 1 % 2
  vw1 : pins 11 1 v ≡ x 11 1 % 2

module _ (x : ℕ → ℕ → ℕ) where
  first : (l : Bool) → First x (sum (first_pins l) x)
  first true = omega (arith, lt-leb)
  first false = omega (arith, lt-leb)

  read : (c : Config) (wide : Bool) → eqb c.organisation 16 ≡ wide → Word x (sum (second_pins true true c) x)
  read c true w = rw w (omega (arith, lt-leb))
  read c false w = rw w (omega (arith, lt-leb))

  mode : (c : Config) → Mode x (sum (second_pins true false c) x)
  mode c = omega (arith, lt-leb)

  refresh : (c : Config) → Word x (sum (second_pins false false c) x)
  refresh c = omega (arith, lt-leb)

  write-2 : (c : Config) (wide : Bool) → eqb c.organisation 16 ≡ wide → c.bl ≡ 2 → Word x (sum (second_pins false true c) x)
  write-2 c true w b = rw (w, b) (omega (arith, lt-leb))
  write-2 c false w b = rw (w, b) (omega (arith, lt-leb))

  write-8 : (c : Config) → eqb c.organisation 16 ≡ false → c.bl ≡ 4 → Lower x (sum (second_pins false true c) x)
  write-8 c w b = rw (w, b) (omega (arith, lt-leb))

  write-16 : (c : Config) → eqb c.organisation 16 ≡ true → c.bl ≡ 4 → Lanes x (sum (second_pins false true c) x)
  write-16 c w b = rw (w, b) (omega (arith, lt-leb))

-- a second word v that shows the numbers of s is tested as s is: a mode's fields, and the lanes
module _ (t : Timing) (s v : ℕ) where
  registers : pins 0 14 v ≡ pins 0 14 s % 2 ^ 14 → (extended : Bool) → register_fits extended t v ≡ register_fits extended t s
  registers h false = let a : (pins 0 3 v ≡ pins 0 3 s) × (pins 4 3 v ≡ pins 4 3 s) = omega arith in rw (a.0, a.1)
  registers h true = let a : pins 0 1 v ≡ pins 0 1 s = omega arith in rw a

  a7-13 : pins 0 14 v ≡ pins 0 14 s % 2 ^ 14 → pins 7 7 v ≡ pins 7 7 s
  a7-13 h = omega arith

  banks : pins 14 3 v ≡ pins 14 3 s % 2 ^ 3 → (pins 14 1 v ≡ pins 14 1 s) × (pins 15 2 v ≡ pins 15 2 s)
  banks h = let b = parts (v / 2 ^ 14) (s / 2 ^ 14) h in (b.0, simp shr-shr at b.1)
    where
      parts : (x y : ℕ) → x % 8 ≡ y % 8 % 8 → (x % 2 ≡ y % 2) × (x / 2 ^ 1 % 4 ≡ y / 2 ^ 1 % 4)
      parts x y e = omega arith

  modes : Mode (λ n k. pins n k s) v → mode_fits t v ≡ mode_fits t s
  modes h = let b = banks h.bank in rw (a7-13 h.address, b.0, b.1, registers h.address (high 14 s))

  lower : eqb t.organisation 16 ≡ false → Lower (λ n k. pins n k s) v → reserved t v ≡ reserved t s
  lower w h = simp (w, h.vw0, h.vw1, mod-mod)

  lanes : Lanes (λ n k. pins n k s) v → reserved t v ≡ reserved t s
  lanes h = simp (h.lower.vw0, h.lower.vw1, h.vw0, h.vw1, mod-mod)

module _ (c : Config) (bl : (c.bl ≡ 2) ⊎ (c.bl ≡ 4)) (f s : ℕ) (stray : (stray_bit f || stray_bit s) ≡ false) where
  abbrev Alike : ℕ → ℕ → Type 0
  Alike g v = sound_pair (derived c) g v ≡ sound_pair (derived c) f s

  alike : (g v : ℕ) → First (λ n k. pins n k f) g → Word (λ n k. pins n k s) v
      → (is_mode f s && not (mode_fits (derived c) v)) ≡ mode_wrong (derived c) f s
      → (is_write f s && reserved (derived c) v) ≡ lane_reserved (derived c) f s → Alike g v
  alike g v o h m k = simp (o.word.cs, o.word.pd, o.word.stray, o.fn, h.cs, h.pd, h.stray, mod-mod, stray, m, k)

  by_kind : (l r : Bool) → lal s ≡ l → rda f ≡ r → Alike (only (first_pins l) f) (only (second_pins r l c) s)
  by_kind true true l r = alike _ _ (first _ true) (read _ c (eqb c.organisation 16) refl) (rw (l, r)) (rw r)
  by_kind false false l r = alike _ _ (first _ false) (refresh _ c) (rw r) (rw (l, r))
  by_kind false true l r = let h = mode _ c in alike _ _ (first _ false) h.word (rw (modes (derived c) s _ h)) (rw r)
  by_kind true false l r = rw (of_word (second_pins false true c) s) at (by-lanes (eqb c.organisation 16) refl bl)
    where
      by-lanes : (wide : Bool) → eqb c.organisation 16 ≡ wide → (c.bl ≡ 2) ⊎ (c.bl ≡ 4)
          → Alike (only (first_pins true) f) (sum (second_pins false true c) (λ n k. pins n k s))
      by-lanes wide w (inl b) = alike _ _ (first _ true) (write-2 _ c wide w b) (rw r) (rw b)
      by-lanes true w (inr b) = let h = write-16 _ c w b in
          alike _ _ (first _ true) h.lower.word (rw r) (rw (lanes (derived c) s _ h))
      by-lanes false w (inr b) = let h = write-8 _ c w b in
          alike _ _ (first _ true) h.word (rw r) (rw (lower (derived c) s _ w h))

  pub ignored-low : Alike (only (first_pins (lal s)) f) (only (second_pins (rda f) (lal s) c) s)
  ignored-low = by_kind (lal s) (rda f) refl refl
