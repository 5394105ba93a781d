-- The closing words of a history fall, so the eighth last REF word is at least seven clocks behind the last.
use Prim.Native.Nat.{ℕ, ◌+◌, ◌≤◌, ◌<◌}
use mathlib.Core.Path.{◌≡◌, refl}
use mathlib.Core.Bool.{Bool, true, false, cond}
use mathlib.Core.List.{List, [], ◌∷◌}
use mathlib.Core.Logic.{◌⊎◌, inl, inr}
use native.Mathlib.Omega.{arith}
use lib.ListN.{get_or}
use Rattle.rules.specs.History.{ClosedPair}
use Rattle.rules.specs.Rules.{closings}
use Rattle.rules.proofs.Newest.{Ordered}
use Rattle.rules.proofs.Tests.{closing-bound}

-- each clock of a list is before the one in front of it
abbrev pub Falling : List ℕ → Type 0
Falling [] = Unit {0}
Falling (k ∷ []) = Unit {0}
Falling (k ∷ j ∷ js) = (j < k) × Falling (j ∷ js)

falling_cons : (k : ℕ) (ks : List ℕ) → get_or ks 0 0 < k → Falling ks → Falling (k ∷ ks)
falling_cons k [] h a = tt
falling_cons k (j ∷ js) h a = (h, a)

-- the closing words of an ordered history fall
pub closings_fall : (f : ClosedPair → Bool) (b : ℕ) (ps : List ClosedPair) → Ordered b ps → Falling (closings f ps)
closings_fall f b [] o = tt
closings_fall f b (p ∷ ps) o = go (f p) (closings_fall f p.start ps o.1)
  where
    go : (x : Bool) → Falling (closings f ps) → Falling (cond x ((p.start + 1) ∷ closings f ps) (closings f ps))
    go true a =
        let h = closing-bound f p.start ps o.1 0 in
        falling_cons (p.start + 1) (closings f ps) (omega arith) a
    go false a = a

-- of falling clocks the eighth is at least seven behind the first, if there is one
pub eighth : (ks : List ℕ) → Falling ks → (get_or ks 7 0 ≡ 0) ⊎ (get_or ks 7 0 + 7 ≤ get_or ks 0 0)
eighth (a ∷ b ∷ c ∷ d ∷ e ∷ f ∷ g ∷ h ∷ ks) p =
    let p₁ = p.0 in
    let p₂ = p.1.0 in
    let p₃ = p.1.1.0 in
    let p₄ = p.1.1.1.0 in
    let p₅ = p.1.1.1.1.0 in
    let p₆ = p.1.1.1.1.1.0 in
    let p₇ = p.1.1.1.1.1.1.0 in
    inr (omega arith)
eighth (a ∷ b ∷ c ∷ d ∷ e ∷ f ∷ g ∷ []) p = inl refl
eighth (a ∷ b ∷ c ∷ d ∷ e ∷ f ∷ []) p = inl refl
eighth (a ∷ b ∷ c ∷ d ∷ e ∷ []) p = inl refl
eighth (a ∷ b ∷ c ∷ d ∷ []) p = inl refl
eighth (a ∷ b ∷ c ∷ []) p = inl refl
eighth (a ∷ b ∷ []) p = inl refl
eighth (a ∷ []) p = inl refl
eighth [] p = inl refl
