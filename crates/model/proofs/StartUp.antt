-- The start-up: each of its pairs opens no later than the paper's schedule, 0, RSC, 2 RSC and 2 RSC + REFC.
use Prim.Native.Nat.{ℕ, ◌+◌, ◌-◌, ◌*◌, ◌≤◌, ◌<◌}
use mathlib.Core.Path.{◌≡◌, refl, sym, ap, ◌∙◌}
use mathlib.Core.Bool.{Bool, true, false, cond, not, true≢false, false≢true}
use mathlib.Core.List.{List, [], ◌∷◌}
use mathlib.Core.Option.{none, some}
use mathlib.Core.Logic.{◌⊎◌, inl, inr}
use native.Mathlib.Omega.{arith}
use borrow.Author.Tests.{leb-true, leb-false}
use lib.Dec.{leb}
use Rattle.config.specs.declared.Timing.{Timing}
use Rattle.command.specs.Pins.{high}
use Rattle.command.specs.Pairs.{rda, lal}
use Rattle.reading.specs.Reading.{mode_by, access_of, operation_of, sound_pair}
use Rattle.writing.specs.Writing.{pair_of}
use Rattle.command.specs.declared.operation.Operation.{Operation}
use Rattle.command.specs.declared.operation.Operation.TheVariants.{Access, Regular, Extended, Refresh}
use Rattle.roundtrip.proofs.WrittenBack.{written_back}
use Rattle.rules.specs.History.{ClosedPair, pair, free, Past}
use Rattle.rules.proofs.Summary.{summary}
use Rattle.rules.proofs.Words.{breach-is}
use Rattle.rules.proofs.Newest.{Ordered}
use Rattle.model.specs.Laid.{breachless, opening}
use Rattle.model.proofs.Figures.{Figures}
use Rattle.model.proofs.Spacings.{mode-closes}
use Rattle.model.proofs.InTime.{by-gaps}
use Rattle.model.proofs.Turn.{pair_at, idle, refresh-opens}

-- a pair that may open at the limit opens there at the latest
abbrev pub Waits : Timing → Past → Operation → ℕ → ℕ → Type 0
Waits t p o k limit = (opening t p (some o) ≡ some o) ⊎ ((opening t p (some o) ≡ none) × (k < limit))

waits : (t : Timing) (p : Past) (o : Operation) (k limit : ℕ) → (limit ≤ k → breachless t p (pair_of t o) ≡ true) → Waits t p o k limit
waits t p o k limit h = by (breachless t p (pair_of t o)) (leb limit k) refl refl
  where
    by : (b c : Bool) → breachless t p (pair_of t o) ≡ b → leb limit k ≡ c
        → (cond b (some o) none ≡ some o) ⊎ ((cond b (some o) none ≡ none) × (k < limit))
    by true c e l = inl refl
    by false true e l = absurd (true≢false (sym (h (leb-true limit k l)) ∙ e))
    by false false e l = inr (refl, leb-false limit k l)

-- a pair that reads as a regular mode has RDA, MRS and BA0 low
abbrev is_regular : Operation → Bool
is_regular (Access r) = false
is_regular (Regular a3) = true
is_regular (Extended v) = false
is_regular Refresh = false

-- the pins of the regular mode that the proofs ask for
pub record RegularPins (f s : ℕ) : Type 0 where
  pub rda : rda f ≡ true
  pub closes : lal s ≡ false
  pub ba0 : high 14 s ≡ false

regular-pins : (t : Timing) (f s : ℕ) (a3 : Bool) → operation_of t f s ≡ Regular a3 → RegularPins f s
regular-pins t f s a3 e =
    let r = go (lal s) (rda f) (high 14 s) (ap is_regular e) in
    record { rda = r.1; closes = r.0; ba0 = r.2 }
  where
    go : (l a x : Bool) → is_regular (cond l (Access (access_of t (not (rda f)) f s)) (cond a (mode_by x s) Refresh)) ≡ true
        → (l ≡ false) × (a ≡ true) × (x ≡ false)
    go true a x h = absurd (false≢true h)
    go false true true h = absurd (false≢true h)
    go false true false h = (refl, refl, refl)
    go false false x h = absurd (false≢true h)

module _ (t : Timing) (f : Figures t) where
  -- the extended mode at clock 0, as a closed pair
  abbrev pub extended : ClosedPair
  extended = pair_at t 0 (Extended 0)

  -- the regular mode that opened at g, as a closed pair
  abbrev pub regular : ℕ → ClosedPair
  regular g = pair_at t g (Regular false)

  abbrev mrs : ℕ
  mrs = (pair_of t (Regular false)).second

  written : (sound_pair t 0xA0000 mrs ≡ true) × (operation_of t 0xA0000 mrs ≡ Regular false)
  written = written_back t f.bl f.cl (Regular false) refl

  pub pins : RegularPins 0xA0000 mrs
  pins = regular-pins t 0xA0000 mrs false written.1

  -- a regular mode
  pub regular-turn : (k : ℕ) → 2 ≤ k → Waits t (idle k (extended ∷ [])) (Regular false) k t.rsc
  regular-turn k low = waits t (idle k (extended ∷ [])) (Regular false) k t.rsc may
    where
      may : t.rsc ≤ k → breachless t (idle k (extended ∷ [])) (pair_of t (Regular false)) ≡ true
      may h =
          let o : Ordered k (extended ∷ []) = (omega arith, tt) in
          let o₁ : Ordered (k + 1 - 1) (extended ∷ []) = (omega arith, tt) in
          rw (
            breach-is t free k (extended ∷ []) 0xA0000 (omega arith, o),
            breach-is t (pair 0xA0000) (k + 1) (extended ∷ []) mrs (omega arith, o₁, refl),
            mode-closes t (summary t.four (extended ∷ [])) (k + 1) 0xA0000 mrs refl
                (record {
                  sound = written.0;
                  closes = pins.closes;
                  rda = refl;
                  read = refl;
                  write = refl;
                  mode = inr (omega arith);
                  refresh = inl refl;
                }),
          )

  -- the two refreshes, after a regular mode that opened at g
  module _ (g : ℕ) (early : 2 ≤ g) (late : g ≤ t.rsc) where
    -- both modes, newest first
    abbrev pub modes : List ClosedPair
    modes = regular g ∷ extended ∷ []

    pub first-refresh-turn : (k : ℕ) → g + 2 ≤ k → Waits t (idle k modes) Refresh k (2 * t.rsc)
    first-refresh-turn k low =
        waits t (idle k modes) Refresh k (2 * t.rsc)
        (λ h. refresh-opens t modes k (omega arith, (omega arith, tt)) refl refl
        (record {
          mode = rw pins.closes (inr (omega arith));
          refresh = inl refl;
          read = rw pins.closes (inl refl);
          write = inl refl;
          window = inl refl;
        }))

    pub second-refresh-turn : (e k : ℕ) → g + 2 ≤ e → e ≤ 2 * t.rsc → e + 2 ≤ k → k ≤ 2 * t.rsc + t.refc
        → Waits t (idle k (pair_at t e Refresh ∷ modes)) Refresh k (2 * t.rsc + t.refc)
    second-refresh-turn e k after by low high =
        let long = f.refi in
        let short = f.refc.1 in
        let shorter = f.rsc.1 in
        let ps = pair_at t e Refresh ∷ modes in
        waits t (idle k ps) Refresh k (2 * t.rsc + t.refc)
        (λ h. refresh-opens t ps k (omega arith, (omega arith, (omega arith, tt))) (by-gaps t ps k (omega arith, tt))
        (by-gaps t ps (k + 1) (omega arith, tt))
        (record {
          mode = rw pins.closes (inr (omega arith));
          refresh = inr (omega arith);
          read = rw pins.closes (inl refl);
          write = inl refl;
          window = inl refl;
        }))
