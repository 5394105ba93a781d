-- An operation in range, written, makes a sound pair that stands for it.
use Prim.Native.Nat.{ℕ, ◌+◌, ◌≤◌, ◌/◌, ◌^◌}
use mathlib.Core.Path.{◌≡◌, refl, sym, ap, subst⁻¹}
use mathlib.Core.Bool.{Bool, true, false, cond, not, ◌&&◌, ◌||◌, not-not, and-true, and-false, or-false, false≢true}
use mathlib.Core.Logic.{◌⊎◌, ⊎_elim}
use native.Mathlib.Omega.{arith}
use native.Mathlib.Nat.{le_trans}
use borrow.Author.Tests.{eqb-true, leb-true, eq-eqb, lt-leb}
use lib.Dec.{eqb, leb, lit≤}
use Rattle.config.specs.declared.Timing.{Timing}
use Rattle.config.proofs.Bounds.{both, either}
use Rattle.command.specs.Pins.{pins, high, stray_bit}
use Rattle.command.specs.Address.{address_fits}
use Rattle.reading.specs.Reading.{lane_of, column_of, reserved, register_fits, mode_by, sound_pair, operation_of}
use Rattle.writing.specs.Writing.{lane_fits, lanes_fit, request_fits, operation_fits, access_pair, pair_of}
use Rattle.command.specs.declared.operation.Request.{Request}
use Rattle.command.specs.declared.operation.Operation.{Operation}
use Rattle.command.specs.declared.operation.Operation.TheVariants.{Access, Regular, Extended, Refresh}
use Rattle.command.proofs.Levels.{level-bound}
use Rattle.roundtrip.proofs.Levels.{high_is}
use Rattle.roundtrip.proofs.Lanes.{vw0, vw1, lane}
use Rattle.roundtrip.proofs.Written.{First, first_word, second_word, second_word_lem}

-- the pair is sound and stands for the operation
abbrev pub ReadsTo : Timing → ℕ → ℕ → Operation → Type 0
ReadsTo t first second o = (sound_pair t first second ≡ true) × (operation_of t first second ≡ o)

-- two words that show an access's fields
read-access : (t : Timing) (r : Request) (f s : ℕ) → First t.four r.write r.bank r.row f → stray_bit s ≡ false → high 19 s ≡ true
    → high 18 s ≡ true → column_of t s ≡ r.column → cond r.write (lane_of t (high 16 s) (high 13 s)) 0 ≡ r.lower
    → cond (r.write && eqb t.organisation 16) (lane_of t (high 12 s) (high 11 s)) 0 ≡ r.upper
    → (r.write && reserved t s) ≡ false → ReadsTo t f s (Access r)
read-access t r f s first stray pd cs column lower upper used = (
  simp (first.cs, first.stray, stray, first.pd, pd, cs, and-false, and-true, first.fn, not-not, used),
  rw (cs, first.fn, not-not, first.bank, first.row, column, lower, upper),
)

-- RDA with its address pins low, and a second word that shows a mode's fields
read-mode : (t : Timing) (s : ℕ) (extended : Bool) (o : Operation) → stray_bit s ≡ false → high 19 s ≡ true → high 18 s ≡ false
    → pins 15 2 s ≡ 0 → pins 7 7 s ≡ 0 → high 14 s ≡ extended → register_fits extended t s ≡ true → mode_by extended s ≡ o
    → ReadsTo t (2 ^ 19 + 2 ^ 17) s o
read-mode t s extended o stray pd cs ba12 a7 ba0 register operation =
    (simp (stray, pd, cs, ba12, a7, ba0, register), rw (cs, ba0) operation)

-- what a request's lanes put on their pins
record Driven (t : Timing) (r : Request) : Type 0 where
  v₀ : Bool
  v₁ : Bool
  u₀ : Bool
  u₁ : Bool
  second : (access_pair t r).second ≡ second_word r.column v₀ v₁ u₀ u₁
  lower : cond r.write (lane_of t v₀ v₁) 0 ≡ r.lower
  upper : cond (r.write && eqb t.organisation 16) (lane_of t u₀ u₁) 0 ≡ r.upper
  used : (r.write && (eqb t.bl 4 && (not v₀ && not v₁ || eqb t.organisation 16 && (not u₀ && not u₁)))) ≡ false

neither : (a x z : Bool) → (a && x) ≡ false → (a && z) ≡ false → (a && (x || z)) ≡ false
neither false x z p q = refl
neither true false z p q = q
neither true true z p q = p

column_bound : (wide : Bool) (n : ℕ) → (leb n 255 || not wide && leb n 511) ≡ true → (n ≤ 511) × (wide ≡ true → n ≤ 255)
column_bound true n e =
    let h = leb-true n 255 (rw or-false at e) in
    (omega arith, λ w. h)
column_bound false n e = (
  ⊎_elim (λ h. le_trans (leb-true n 255 h) (lit≤ tt)) (λ h. leb-true n 511 h) (either (leb n 255) (leb n 511) e),
  λ w. absurd (false≢true w),
)

column_back : (wide : Bool) (n s : ℕ) → (wide ≡ true → pins 0 8 s ≡ n) → pins 0 9 s ≡ n → cond wide (pins 0 8 s) (pins 0 9 s) ≡ n
column_back true n s w k = w refl
column_back false n s w k = k

module _ (t : Timing) (bl : (t.bl ≡ 2) ⊎ (t.bl ≡ 4)) where
  driven : (write wide : Bool) → eqb t.organisation 16 ≡ wide → (bank row column lower upper : ℕ)
      → lanes_fit t (record { write = write; bank = bank; row = row; column = column; lower = lower; upper = upper }) ≡ true
      → Driven t (record { write = write; bank = bank; row = row; column = column; lower = lower; upper = upper })
  driven false wide w bank row column lower upper e =
      let h = both (eqb lower 0) (eqb upper 0) e in
      record {
        v₀ = false;
        v₁ = false;
        u₀ = false;
        u₁ = false;
        second = refl;
        lower = sym (eqb-true lower 0 h.0);
        upper = sym (eqb-true upper 0 h.1);
        used = refl;
      }
  driven true false w bank row column lower upper e =
      let h = both (lane_fits t lower) _ (rw or-false at e) in
      let l = lane t bl lower h.0 in
      record {
        v₀ = vw0 lower;
        v₁ = vw1 t lower;
        u₀ = false;
        u₁ = false;
        second = rw w;
        lower = l.back;
        upper = rw w (sym (eqb-true upper 0 (rw w at h.1)));
        used = rw w (neither (eqb t.bl 4) _ false l.used (and-false (eqb t.bl 4)));
      }
  driven true true w bank row column lower upper e =
      let h = both (lane_fits t lower) _ (rw or-false at e) in
      let l = lane t bl lower h.0 in
      let u = lane t bl upper (rw or-false at (rw w at h.1)) in
      record {
        v₀ = vw0 lower;
        v₁ = vw1 t lower;
        u₀ = vw0 upper;
        u₁ = vw1 t upper;
        second = rw w;
        lower = l.back;
        upper = rw w u.back;
        used = rw w (neither (eqb t.bl 4) _ _ l.used u.used);
      }

  written-access : (r : Request) → request_fits t r ≡ true → ReadsTo t (access_pair t r).first (access_pair t r).second (Access r)
  written-access r e =
      let wide = eqb t.organisation 16 in
      let columns = leb r.column 255 || not wide && leb r.column 511 in
      let address = address_fits t.four r.bank r.row in
      let h₁ = both (address && columns) (lanes_fit t r) e in
      let h₂ = both address columns h₁.0 in
      let d = driven r.write wide refl r.bank r.row r.column r.lower r.upper h₁.1 in
      let first = first_word t.four r.write r.bank r.row h₂.0 in
      let column = column_bound wide r.column h₂.1 in
      let w = second_word r.column d.v₀ d.v₁ d.u₀ d.u₁ in
      let second = second_word_lem r.column d.v₀ d.v₁ d.u₀ d.u₁ column.0 in
      subst⁻¹ (λ s. ReadsTo t (access_pair t r).first s (Access r)) d.second
      (read-access t r (access_pair t r).first w first second.stray second.pd second.cs
      (column_back wide r.column w (λ h. second.wide (column.1 h)) second.narrow)
      (rw (second.lower₀, second.lower₁) d.lower)
      (rw (second.upper₀, second.upper₁) d.upper)
      (rw (second.lower₀, second.lower₁, second.upper₀, second.upper₁) d.used))

  pub written_back : (3 ≤ t.cl) × (t.cl ≤ 5) → (o : Operation) → operation_fits t o ≡ true
      → ReadsTo t (pair_of t o).first (pair_of t o).second o
  written_back cl (Access r) e = written-access r e
  written_back cl (Regular a3) e =
      let s = (pair_of t (Regular a3)).second in
      let b : t.bl ≤ 4 = ⊎_elim (λ h. omega arith) (λ h. omega arith) bl in
      let l = level-bound a3 in
      read-mode t s false (Regular a3) (lt-leb (2 ^ 20) s (omega arith)) (high_is 19 s true (omega arith))
      (high_is 18 s false (omega arith))
      (omega arith)
      (omega arith)
      (high_is 14 s false (omega arith))
      (rw (eq-eqb (pins 0 3 s) (t.bl / 2) (omega arith), eq-eqb (pins 4 3 s) t.cl (omega arith)))
      (rw (high_is 3 s a3 (omega arith)))
  written_back cl (Extended v) e =
      let s = (pair_of t (Extended v)).second in
      let b = leb-true v 63 e in
      read-mode t s true (Extended v) (lt-leb (2 ^ 20) s (omega arith)) (high_is 19 s true (omega arith))
      (high_is 18 s false (omega arith))
      (omega arith)
      (omega arith)
      (high_is 14 s true (omega arith))
      (rw (high_is 0 s false (omega arith)))
      (ap Extended (omega arith))
  written_back cl Refresh e = (refl, refl)
