-- A lane's words in range are what its two pins read back to; and pins that are not reserved read to words in range, which are written back
-- as they were. Each by its few cases.
use Prim.Native.Nat.{ℕ}
use mathlib.Core.Path.{◌≡◌}
use mathlib.Core.Bool.{Bool, true, false, not, ◌&&◌, ◌||◌, true≢false}
use mathlib.Core.Logic.{◌⊎◌, inl, inr}
use borrow.Author.Tests.{eqb-true}
use lib.Dec.{eqb}
use Rattle.config.specs.declared.Timing.{Timing}
use Rattle.config.proofs.Bounds.{both, either}
use Rattle.reading.specs.Reading.{lane_of}
use Rattle.writing.specs.Writing.{lane_fits}

-- the levels that write n words
abbrev pub vw0 : ℕ → Bool
vw0 n = not (eqb n 2)

abbrev pub vw1 : Timing → ℕ → Bool
vw1 t n = eqb t.bl 4 && not (eqb n 4)

abbrev pub unused : Timing → Bool → Bool → Bool
unused t a b = eqb t.bl 4 && (not a && not b)

pub record Lane (t : Timing) (n : ℕ) : Type 0 where
  pub back : lane_of t (vw0 n) (vw1 t n) ≡ n
  pub used : unused t (vw0 n) (vw1 t n) ≡ false

lane-words : (t : Timing) (n : ℕ) → lane_fits t n ≡ true → (n ≡ 1) ⊎ ((n ≡ 2) ⊎ ((t.bl ≡ 4) × (n ≡ 4)))
lane-words t n e = go (either (eqb n 1 || eqb n 2) (eqb t.bl 4 && eqb n 4) e)
  where
    small : (eqb n 1 ≡ true) ⊎ (eqb n 2 ≡ true) → (n ≡ 1) ⊎ ((n ≡ 2) ⊎ ((t.bl ≡ 4) × (n ≡ 4)))
    small (inl h) = inl (eqb-true n 1 h)
    small (inr h) = inr (inl (eqb-true n 2 h))

    go : ((eqb n 1 || eqb n 2) ≡ true) ⊎ ((eqb t.bl 4 && eqb n 4) ≡ true) → (n ≡ 1) ⊎ ((n ≡ 2) ⊎ ((t.bl ≡ 4) × (n ≡ 4)))
    go (inl h) = small (either (eqb n 1) (eqb n 2) h)
    go (inr h) =
        let q = both (eqb t.bl 4) (eqb n 4) h in
        inr (inr (eqb-true t.bl 4 q.0, eqb-true n 4 q.1))

pub lane : (t : Timing) → (t.bl ≡ 2) ⊎ (t.bl ≡ 4) → (n : ℕ) → lane_fits t n ≡ true → Lane t n
lane t bl n e = go bl (lane-words t n e)
  where
    go : (t.bl ≡ 2) ⊎ (t.bl ≡ 4) → (n ≡ 1) ⊎ ((n ≡ 2) ⊎ ((t.bl ≡ 4) × (n ≡ 4))) → Lane t n
    go (inl b) (inl q) = record { back = rw (b, q); used = rw b }
    go (inr b) (inl q) = record { back = rw (b, q); used = rw (b, q) }
    go (inl b) (inr (inl q)) = record { back = rw (b, q); used = rw b }
    go (inr b) (inr (inl q)) = record { back = rw (b, q); used = rw (b, q) }
    go b (inr (inr q)) = record { back = rw (q.0, q.1); used = rw (q.0, q.1) }

-- the other way: from levels that are not reserved
pub record Read (t : Timing) (a b : Bool) : Type 0 where
  pub fits : lane_fits t (lane_of t a b) ≡ true
  pub first : vw0 (lane_of t a b) ≡ a
  pub second : vw1 t (lane_of t a b) ≡ (eqb t.bl 4 && b)

pub read : (t : Timing) → (t.bl ≡ 2) ⊎ (t.bl ≡ 4) → (a b : Bool) → unused t a b ≡ false → Read t a b
read t (inl e) false b u = record { fits = rw e; first = rw e; second = rw e }
read t (inl e) true b u = record { fits = rw e; first = rw e; second = rw e }
read t (inr e) false false u = absurd (true≢false (rw e at u))
read t (inr e) false true u = record { fits = rw e; first = rw e; second = rw e }
read t (inr e) true false u = record { fits = rw e; first = rw e; second = rw e }
read t (inr e) true true u = record { fits = rw e; first = rw e; second = rw e }
