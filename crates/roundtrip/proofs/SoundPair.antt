-- The tests that a sound pair passes, one by one.
use Prim.Native.Nat.{ℕ}
use mathlib.Core.Path.{◌≡◌, refl}
use mathlib.Core.Bool.{Bool, true, false, not, ◌&&◌, ◌||◌, false≢true}
use borrow.Author.Tests.{not-true}
use Rattle.config.specs.declared.Timing.{Timing}
use Rattle.config.proofs.Bounds.{both}
use Rattle.command.specs.Pins.{high, stray_bit}
use Rattle.reading.specs.Reading.{mode_wrong, lane_reserved, sound_pair}

pub record SoundTests (t : Timing) (first second : ℕ) : Type 0 where
  pub cs : high 18 first ≡ false
  pub stray₁ : stray_bit first ≡ false
  pub stray₂ : stray_bit second ≡ false
  pub pd₁ : high 19 first ≡ true
  pub pd₂ : high 19 second ≡ true
  pub mode : mode_wrong t first second ≡ false
  pub lane : lane_reserved t first second ≡ false

neither : (a b : Bool) → not (a || b) ≡ true → (a ≡ false) × (b ≡ false)
neither false false e = (refl, refl)
neither false true e = absurd (false≢true e)
neither true b e = absurd (false≢true e)

pub sound-tests : (t : Timing) (first second : ℕ) → sound_pair t first second ≡ true → SoundTests t first second
sound-tests t f s e =
    let a = not (high 18 f) in
    let b = not (stray_bit f || stray_bit s) in
    let d = high 19 f && high 19 s in
    let m = not (mode_wrong t f s) in
    let h₁ = both (a && b && d && m) (not (lane_reserved t f s)) e in
    let h₂ = both (a && b && d) m h₁.0 in
    let h₃ = both (a && b) d h₂.0 in
    let h₄ = both a b h₃.0 in
    let strays = neither (stray_bit f) (stray_bit s) h₄.1 in
    let pd = both (high 19 f) (high 19 s) h₃.1 in
    record {
      cs = not-true (high 18 f) h₄.0;
      stray₁ = strays.0;
      stray₂ = strays.1;
      pd₁ = pd.0;
      pd₂ = pd.1;
      mode = not-true (mode_wrong t f s) h₂.1;
      lane = not-true (lane_reserved t f s) h₁.1;
    }
