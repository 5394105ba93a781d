-- A sound pair stands for an operation in range, which is written back as the pair with every ignored pin low.
use Prim.Native.Nat.{ℕ, ◌+◌, ◌*◌, ◌/◌, ◌^◌, ◌<◌}
use mathlib.Core.Path.{◌≡◌, refl, sym, ap, subst⁻¹, ◌∙◌}
use mathlib.Core.Bool.{Bool, true, false, cond, not, ◌&&◌, ◌||◌, or-true, true≢false}
use mathlib.Core.List.{List, [], ◌∷◌, ◌++◌}
use mathlib.Core.Logic.{◌⊎◌, inl, inr}
use native.Mathlib.Omega.{arith}
use borrow.Author.Tests.{eqb-true, le-leb, not-true, not-false}
use native.Mathlib.Nat.{mod-lt, le-pred_of_lt, zero-add, add-zero, add_assoc, zero-mul}
use lib.Dec.{eqb, leb, lit<}
use Rattle.config.specs.Configuration.{derived}
use Rattle.config.specs.declared.Config.{Config}
use Rattle.config.specs.declared.Timing.{Timing}
use Rattle.config.proofs.Bounds.{both}
use Rattle.command.specs.Pins.{pins, high, put, drive, level}
use Rattle.command.specs.Address.{bank_of, row_of, address_fits, address_at}
use Rattle.command.specs.Pairs.{rda, lal}
use Rattle.reading.specs.Reading.{
  column_of,
  lane_of,
  access_of,
  register_fits,
  mode_fits,
  mode_by,
  mode_wrong,
  lane_reserved,
  sound_pair,
  operation_of,
}
use Rattle.writing.specs.Writing.{lanes_fit, operation_fits, lane_at, pair_of}
use Rattle.roundtrip.specs.Ignored.{Pins, only, always, first_pins, column_width, lane_pins, write_pins, second_pins, ignored_low}
use Rattle.command.specs.declared.operation.Operation.{Operation}
use Rattle.command.specs.declared.operation.Operation.TheVariants.{Access, Regular, Extended, Refresh}
use Rattle.command.specs.declared.operation.Pair.{Pair}
use Rattle.roundtrip.proofs.SoundPair.{sound-tests}
use Rattle.roundtrip.proofs.Levels.{level-high, put-pins, pins-split}
use Rattle.roundtrip.proofs.Lanes.{unused, read}

-- what a sound pair keeps, on the pins
pub record Sound (t : Timing) (f s : ℕ) : Type 0 where
  pub cs : pins 18 1 f ≡ 0
  pub pd₁ : pins 19 1 f ≡ 1
  pub pd₂ : pins 19 1 s ≡ 1
  pub mode : mode_wrong t f s ≡ false
  pub lane : lane_reserved t f s ≡ false

not-high : (n w : ℕ) → high n w ≡ false → pins n 1 w ≡ 0
not-high n w e = sym (level-high n w) ∙ ap level e

is-high : (n w : ℕ) → high n w ≡ true → pins n 1 w ≡ 1
is-high n w e = sym (level-high n w) ∙ ap level e

pub sound : (t : Timing) (f s : ℕ) → sound_pair t f s ≡ true → Sound t f s
sound t f s e =
    let h = sound-tests t f s e in
    record { cs = not-high 18 f h.cs; pd₁ = is-high 19 f h.pd₁; pd₂ = is-high 19 s h.pd₂; mode = h.mode; lane = h.lane }

-- the operation is in range, and its pair is this one
abbrev pub WritesTo : Timing → Operation → Pair → Type 0
WritesTo t o p = (operation_fits t o ≡ true) × (pair_of t o ≡ p)

neither : (a x z : Bool) → (a && (x || z)) ≡ false → ((a && x) ≡ false) × ((a && z) ≡ false)
neither false x z e = (refl, refl)
neither true false z e = (refl, e)
neither true true z e = absurd (true≢false e)

pair_path : {a b x y : ℕ} → a ≡ x → b ≡ y → ◌≡◌ {A = Pair} (record { first = a; second = b }) (record { first = x; second = y })
pair_path p q = λ i. record { first = p i; second = q i }

-- the second word of a mode pair, with FN low: BA0 and A0 to A6 are all that can be high
mode-word : (c : Config) (s : ℕ) → pins 15 2 s ≡ 0 → pins 7 7 s ≡ 0 → pins 18 1 s ≡ 0 → pins 19 1 s ≡ 1
    → only (second_pins true false c) s ≡ 2 ^ 19 + pins 14 1 s * 2 ^ 14 + pins 0 7 s
mode-word c s ba a7 cs pd =
    rw
    (put-pins 0 14 s, put-pins 14 3 s, put-pins 18 1 s, put-pins 19 1 s, pins-split 0 7 7 s, pins-split 14 2 1 s, ba, a7, cs, pd)
    (total (pins 0 7 s) (pins 14 1 s))
  where
    total : (a b : ℕ) → (0 * 128 + a) * 1 + ((0 * 2 + b) * 16384 + (0 * 262144 + (1 * 524288 + 0))) ≡ 524288 + b * 16384 + a
    total a b = omega arith

regular-word : (s : ℕ) → pins 14 1 s ≡ 0
    → 2 ^ 19 + put 4 3 (pins 4 3 s) + pins 3 1 s * 2 ^ 3 + put 0 3 (pins 0 3 s) ≡ 2 ^ 19 + pins 14 1 s * 2 ^ 14 + pins 0 7 s
regular-word s e =
    rw (put-pins 4 3 s, put-pins 0 3 s, pins-split 0 3 4 s, pins-split 0 1 3 s, e) (total (pins 4 3 s) (pins 3 1 s) (pins 0 3 s))
  where
    total : (a b d : ℕ) → 524288 + a * 16 + b * 8 + d * 1 ≡ 524288 + 0 * 16384 + (a * 16 + (b * 8 + d))
    total a b d = omega arith

extended-word : (s : ℕ) → pins 14 1 s ≡ 1 → pins 0 1 s ≡ 0
    → 2 ^ 19 + 2 ^ 14 + put 1 6 (pins 1 6 s) ≡ 2 ^ 19 + pins 14 1 s * 2 ^ 14 + pins 0 7 s
extended-word s e a0 = rw (put-pins 1 6 s, pins-split 0 6 1 s, e, a0) (total (pins 1 6 s))
  where
    total : (a : ℕ) → 540672 + a * 2 ≡ 524288 + 1 * 16384 + (a * 2 + 0)
    total a = omega arith

only_append : (ps qs : List Pins) (w : ℕ) → only (ps ++ qs) w ≡ only ps w + only qs w
only_append [] qs w = sym (zero-add (only qs w))
only_append (p ∷ ps) qs w = rw (only_append ps qs w) (sym (add_assoc _ (only ps w) (only qs w)))

always-word : (s : ℕ) → pins 18 1 s ≡ 1 → pins 19 1 s ≡ 1 → only always s ≡ 2 ^ 19 + 2 ^ 18
always-word s cs pd = rw (put-pins 18 1 s, put-pins 19 1 s, cs, pd)

-- bank and row of a first word, with either wiring: they are in range, and put back they are all its address pins
address-fits : (four : Bool) (f : ℕ) → address_fits four (bank_of four f) (row_of four f) ≡ true
address-fits true f = rw (le-leb (bank_of true f) 3 (omega arith), le-leb (row_of true f) 32767 (omega arith))
address-fits false f = rw (le-leb (bank_of false f) 7 (omega arith), le-leb (row_of false f) 16383 (omega arith))

address_word : (four : Bool) (f : ℕ) → address_at four (bank_of four f) (row_of four f) ≡ pins 14 3 f * 2 ^ 14 + pins 0 14 f
address_word true f =
    rw (pins-split 14 1 2 f)
    (total (pins 16 1 f) (pins 14 2 f) (pins 0 14 f) (mod-lt (f / 2 ^ 16) (lit< tt)) (mod-lt (f / 2 ^ 14) (lit< tt))
    (mod-lt (f / 1) (lit< tt)))
  where
    total : (p q a : ℕ) → p < 2 → q < 4 → a < 2 ^ 14 → address_at true q (p * 2 ^ 14 + a) ≡ (p * 4 + q) * 2 ^ 14 + a
    total p q a top bank low = omega arith
address_word false f = omega arith

first_word : (four : Bool) (f : ℕ) (r : Bool) → rda f ≡ r → pins 18 1 f ≡ 0 → pins 19 1 f ≡ 1
    → 2 ^ 19 + drive 17 r + address_at four (bank_of four f) (row_of four f) ≡ only (first_pins true) f
first_word four f r e cs pd =
    rw
    (address_word four f, put-pins 14 3 f, put-pins 0 14 f, put-pins 17 1 f, put-pins 18 1 f, put-pins 19 1 f, ← level-high 17 f, e, cs, pd)
    (total (level r) (pins 14 3 f) (pins 0 14 f))
  where
    total : (a b d : ℕ) → 524288 + a * 131072 + (b * 16384 + d) ≡ d * 1 + (b * 16384 + (a * 131072 + (0 * 262144 + (1 * 524288 + 0))))
    total a b d = omega arith

column_word : (c : Config) (wide : Bool) → eqb c.organisation 16 ≡ wide → (s : ℕ)
    → put 0 9 (column_of (derived c) s) ≡ put 0 (column_width c) (pins 0 (column_width c) s)
column_word c true w s = rw w (omega arith)
column_word c false w s = rw w

column_fits : (wide : Bool) (s : ℕ)
    → (leb (cond wide (pins 0 8 s) (pins 0 9 s)) 255 || not wide && leb (cond wide (pins 0 8 s) (pins 0 9 s)) 511) ≡ true
column_fits true s = rw (le-leb (pins 0 8 s) 255 (omega arith))
column_fits false s = rw (le-leb (pins 0 9 s) 511 (omega arith), or-true)

-- a lane's two pins, written from the words that they were read to
lane_word : (c : Config) → (c.bl ≡ 2) ⊎ (c.bl ≡ 4) → (n m s : ℕ) → unused (derived c) (high n s) (high m s) ≡ false
    → lane_at (derived c) n m (lane_of (derived c) (high n s) (high m s)) ≡ only (lane_pins c n m) s
lane_word c bl n m s u =
    let l = read (derived c) bl (high n s) (high m s) u in
    rw (l.first, l.second, level-high n s) (go bl)
  where
    go : (c.bl ≡ 2) ⊎ (c.bl ≡ 4) → pins n 1 s * 2 ^ n + drive m (eqb c.bl 4 && high m s) ≡ only (lane_pins c n m) s
    go (inl e) = rw e (simp (put-pins, zero-mul))
    go (inr e) = rw e (simp (level-high, put-pins, add-zero))

module _ (c : Config) (bl : (c.bl ≡ 2) ⊎ (c.bl ≡ 4)) (f s : ℕ) (h : Sound (derived c) f s) where
  refresh-back : rda f ≡ false → lal s ≡ false → WritesTo (derived c) Refresh (ignored_low c (record { first = f; second = s }))
  refresh-back r l =
      let r' = not-high 17 f r in
      let l' = not-high 18 s l in
      (refl, rw (r, l) (pair_path (simp (r', h.cs, h.pd₁)) (simp (l', h.pd₂))))

  mode-fits : rda f ≡ true → lal s ≡ false → mode_fits (derived c) s ≡ true
  mode-fits r l = not-false (mode_fits (derived c) s) (rw (r, l) at h.mode)

  -- what the second word of a mode pair shows
  record Register : Type 0 where
    ba : pins 15 2 s ≡ 0
    a7 : pins 7 7 s ≡ 0
    register : register_fits (high 14 s) (derived c) s ≡ true

  register : rda f ≡ true → lal s ≡ false → Register
  register r l =
      let ba = eqb (pins 15 2 s) 0 in
      let a7 = eqb (pins 7 7 s) 0 in
      let h₁ = both (ba && a7) (register_fits (high 14 s) (derived c) s) (mode-fits r l) in
      let h₂ = both ba a7 h₁.0 in
      record { ba = eqb-true (pins 15 2 s) 0 h₂.0; a7 = eqb-true (pins 7 7 s) 0 h₂.1; register = h₁.1 }

  regular-back : rda f ≡ true → lal s ≡ false → high 14 s ≡ false
      → WritesTo (derived c) (Regular (high 3 s)) (ignored_low c (record { first = f; second = s }))
  regular-back r l e =
      let r' = is-high 17 f r in
      let g = register r l in
      let fields = both (eqb (pins 0 3 s) (c.bl / 2)) (eqb (pins 4 3 s) c.cl) (rw e at g.register) in (
        refl,
        rw (r, l)
            (pair_path (simp (r', h.cs, h.pd₁))
            (rw (← eqb-true (pins 4 3 s) c.cl fields.1, ← eqb-true (pins 0 3 s) (c.bl / 2) fields.0, level-high 3 s)
            (regular-word s (not-high 14 s e) ∙ sym (mode-word c s g.ba g.a7 (not-high 18 s l) h.pd₂)))),
      )

  extended-back : rda f ≡ true → lal s ≡ false → high 14 s ≡ true
      → WritesTo (derived c) (Extended (pins 1 6 s)) (ignored_low c (record { first = f; second = s }))
  extended-back r l e =
      let r' = is-high 17 f r in
      let g = register r l in
      let a0 = not-high 0 s (not-true (high 0 s) (rw e at g.register)) in (
        le-leb (pins 1 6 s) 63 (le-pred_of_lt (mod-lt (s / 2) (lit< tt))),
        rw (r, l)
            (pair_path (simp (r', h.cs, h.pd₁))
            (extended-word s (is-high 14 s e) a0 ∙ sym (mode-word c s g.ba g.a7 (not-high 18 s l) h.pd₂))),
      )

  -- the second word of a write pair is not reserved, in the lower lane and, by 16, in the upper
  lanes-used : rda f ≡ false → lal s ≡ true
      → (unused (derived c) (high 16 s) (high 13 s) ≡ false) ×
      ((eqb c.bl 4 && (eqb c.organisation 16 && (not (high 12 s) && not (high 11 s)))) ≡ false)
  lanes-used r l = neither (eqb c.bl 4) (not (high 16 s) && not (high 13 s)) _ (rw (r, l) at h.lane)

  read_back : rda f ≡ true → lal s ≡ true
      → WritesTo (derived c) (Access (access_of (derived c) false f s)) (ignored_low c (record { first = f; second = s }))
  read_back r l =
      let wide = eqb c.organisation 16 in (
        rw (address-fits (derived c).four f, column_fits wide s),
        rw (r, l)
            (pair_path (first_word (derived c).four f true r h.cs h.pd₁)
            (rw (column_word c wide refl s, always-word s (is-high 18 s l) h.pd₂) (omega arith))),
      )

  -- the lanes of a write, by 8 and by 16: in range, and written back
  write-lanes : (wide : Bool) → eqb c.organisation 16 ≡ wide → rda f ≡ false → lal s ≡ true
      → (lanes_fit (derived c) (access_of (derived c) true f s) ≡ true)
      × (lane_at (derived c) 16 13 (lane_of (derived c) (high 16 s) (high 13 s))
      + cond (eqb c.organisation 16)
      (lane_at (derived c) 12 11 (cond (eqb c.organisation 16) (lane_of (derived c) (high 12 s) (high 11 s)) 0)) 0
      ≡ only (write_pins c) s)
  write-lanes false w r l =
      let u = lanes-used r l in
      let lower = read (derived c) bl (high 16 s) (high 13 s) u.0 in (
        rw (w, lower.fits),
        rw (w, lane_word c bl 16 13 s u.0) (sym (only_append (lane_pins c 16 13) [] s)),
      )
  write-lanes true w r l =
      let u = lanes-used r l in
      let u₁ = rw w at u.1 in
      let lower = read (derived c) bl (high 16 s) (high 13 s) u.0 in
      let upper = read (derived c) bl (high 12 s) (high 11 s) u₁ in (
        rw (w, lower.fits, upper.fits),
        rw (w, lane_word c bl 16 13 s u.0, lane_word c bl 12 11 s u₁) (sym (only_append (lane_pins c 16 13) (lane_pins c 12 11) s)),
      )

  regroup : (a x y z : ℕ) → a + x + y + z ≡ x + (y + z + a)
  regroup a x y z = omega arith

  write-back : rda f ≡ false → lal s ≡ true
      → WritesTo (derived c) (Access (access_of (derived c) true f s)) (ignored_low c (record { first = f; second = s }))
  write-back r l =
      let wide = eqb c.organisation 16 in
      let lanes = write-lanes wide refl r l in (
        rw (address-fits (derived c).four f, column_fits wide s) lanes.0,
        rw (r, l)
            (pair_path (first_word (derived c).four f false r h.cs h.pd₁)
            (rw (
              column_word c wide refl s,
              only_append (write_pins c) always s,
              always-word s (is-high 18 s l) h.pd₂,
              ← lanes.1,
            ) (regroup 786432 _ _ _))),
      )

  by_mode : rda f ≡ true → lal s ≡ false → (extended : Bool) → high 14 s ≡ extended
      → WritesTo (derived c) (mode_by (high 14 s) s) (ignored_low c (record { first = f; second = s }))
  by_mode r l false e = rw e (regular-back r l e)
  by_mode r l true e = rw e (extended-back r l e)

  by_kind : (l : Bool) → lal s ≡ l → (r : Bool) → rda f ≡ r
      → (o : Operation) × (operation_of (derived c) f s ≡ o) × WritesTo (derived c) o (ignored_low c (record { first = f; second = s }))
  by_kind true l true r = (Access (access_of (derived c) false f s), rw (l, r), read_back r l)
  by_kind true l false r = (Access (access_of (derived c) true f s), rw (l, r), write-back r l)
  by_kind false l true r = (mode_by (high 14 s) s, rw (l, r), by_mode r l (high 14 s) refl)
  by_kind false l false r = (Refresh, rw (l, r), refresh-back r l)

  pub back : WritesTo (derived c) (operation_of (derived c) f s) (ignored_low c (record { first = f; second = s }))
  back =
      let k = by_kind (lal s) refl (rda f) refl in
      subst⁻¹ (λ o. WritesTo (derived c) o (ignored_low c (record { first = f; second = s }))) k.1 k.2
