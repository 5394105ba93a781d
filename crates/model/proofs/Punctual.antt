-- After the start-up every tick keeps the bounds of the waiting requests, and a request opens within its own: F, the clock from which on
-- nothing but a refresh keeps one from closing, moves on by S behind a read or write, by REFC behind a refresh, and else not at all.
use Prim.Native.Nat.{ℕ, ◌+◌, ◌≤◌, ◌<◌}
use mathlib.Core.Path.{◌≡◌, refl, sym, subst}
use mathlib.Core.Bool.{true, false}
use mathlib.Core.List.{List, [], ◌∷◌, map, nil≢cons}
use mathlib.Core.Option.{some}
use mathlib.Core.Logic.{◌⊎◌, inl, inr}
use native.Mathlib.Omega.{arith}
use native.Mathlib.Nat.{le_trans, le-add_right}
use Rattle.config.specs.declared.Timing.{Timing}
use Rattle.queue.specs.Place.{without}
use Rattle.model.specs.Laid.{entry_at}
use Rattle.rules.specs.History.{ClosedPair}
use Rattle.rules.specs.Rules.{was_read, was_write, was_refresh}
use Rattle.model.proofs.Figures.{Figures}
use Rattle.model.proofs.Candidates.{AllFit}
use Rattle.model.proofs.InTime.{last_ref, latest-moved}
use Rattle.model.proofs.Prompt.{Awaited, requests, lower, Prompt, Close, Spare, sooner, one-opened, entry-by, put_off}
use Rattle.model.proofs.Soonest.{Pace, soonest, soonest_pace, pace_soonest}

-- the bounds hold at a clock k where no pair is open
abbrev pub Punctual : Timing → List ClosedPair → ℕ → List Awaited → Type 0
Punctual t ps k xs = Prompt t (last_ref ps) (soonest t ps k) xs

-- what holds of the requests that have not opened, at a clock k where no pair is open
pub record Queue (t : Timing) (ps : List ClosedPair) (k : ℕ) (xs : List Awaited) : Type 0 where
  -- each is in range
  pub fit : AllFit t (requests xs)
  -- no bound is far off
  pub near : Close k xs
  -- each meets its bound, with so many opening before it as its rank says
  pub punctual : Punctual t ps k xs

module _ (t : Timing) (f : Figures t) (ps : List ClosedPair) (k F : ℕ) (c : Pace t ps k F) where
  pace_idle : k + 1 < F → Pace t ps (k + 1) F
  pace_idle h = record { now = omega arith; ready = c.ready; read = c.read; write = c.write; refresh = c.refresh }

  module _ (p : ClosedPair) (at : p.start ≡ k) where
    pace_access : was_refresh p ≡ false → Pace t (p ∷ ps) (k + 2) (F + t.spacing)
    pace_access e =
        let now = c.now in
        let ready = c.ready in
        let read = c.read in
        let write = c.write in
        let refresh = c.refresh in
        let s = f.same-bank in
        let rc = f.rc.0 in
        record {
          now = omega arith;
          ready = omega arith;
          read = latest-moved ps k p at was_read t.spacing (F + t.spacing) (omega arith) (omega arith);
          write = latest-moved ps k p at was_write t.spacing (F + t.spacing) (omega arith) (omega arith);
          refresh = rw e (omega arith);
        }

    pace_refresh : was_read p ≡ false → was_write p ≡ false → Pace t (p ∷ ps) (k + 2) (F + t.refc)
    pace_refresh r w =
        let now = c.now in
        let ready = c.ready in
        let read = c.read in
        let write = c.write in
        let refresh = c.refresh in
        let long = f.refc.0 in
        record {
          now = omega arith;
          ready = omega arith;
          read = rw r (omega arith);
          write = rw w (omega arith);
          refresh = latest-moved ps k p at was_refresh t.refc (F + t.refc) (omega arith) (omega arith);
        }

module _ (t : Timing) (f : Figures t) (ps : List ClosedPair) (k : ℕ) where
  -- DESL where nothing waits, or where it is too soon
  pub idle-punctual : (xs : List Awaited) → (requests xs ≡ []) ⊎ (k + 1 < soonest t ps k) → Punctual t ps k xs → Punctual t ps (k + 1) xs
  idle-punctual [] (inl e) q = tt
  idle-punctual (x ∷ xs) (inl e) q = absurd (nil≢cons (sym e))
  idle-punctual xs (inr h) q =
      let F = soonest t ps k in
      sooner t (last_ref ps) F (soonest t ps (k + 1)) xs (pace_soonest t ps (k + 1) F (pace_idle t f ps k F (soonest_pace t ps k) h)) q

  module _ (p : ClosedPair) (at : p.start ≡ k) where
    -- a request opens within its bound, and the others keep theirs
    pub access-punctual : (i : ℕ) (xs : List Awaited) (x : Awaited) → entry_at i xs ≡ some x → Spare i xs → was_refresh p ≡ false
        → Punctual t ps k xs → (k + 1 ≤ x.bound) × Punctual t (p ∷ ps) (k + 2) (map lower (without i xs))
    access-punctual i xs x is spare e q =
        let F = soonest t ps k in
        let G = soonest t (p ∷ ps) (k + 2) in
        let c = soonest_pace t ps k in
        let pace = pace_soonest t (p ∷ ps) (k + 2) (F + t.spacing) (pace_access t f ps k F c p at e) in
        let same : last_ref ps ≡ last_ref (p ∷ ps) = rw e in (
          le_trans c.now (entry-by t (last_ref ps) F i xs x is q),
          subst (λ r. Prompt t r G (map lower (without i xs))) same
              (sooner t (last_ref ps) (F + t.spacing) G (map lower (without i xs)) pace (one-opened t (last_ref ps) F i xs spare q)),
        )

    -- a refresh that is called for leaves time for all
    pub refresh-punctual : (xs : List Awaited) → was_read p ≡ false → was_write p ≡ false → was_refresh p ≡ true
        → last_ref ps + t.refi ≤ k + t.rc → Close k xs → Punctual t ps k xs → Punctual t (p ∷ ps) (k + 2) xs
    refresh-punctual xs r w e due near q =
        let F = soonest t ps k in
        let G = soonest t (p ∷ ps) (k + 2) in
        let c = soonest_pace t ps k in
        let now = c.now in
        let pace = pace_soonest t (p ∷ ps) (k + 2) (F + t.refc) (pace_refresh t f ps k F c p at r w) in
        let new : k + 1 ≡ last_ref (p ∷ ps) = rw (e, at) in
        let off = put_off t f (last_ref ps) k due F (F + t.refc) xs (le_trans (le-add_right k 1) now) refl near q in
        subst (λ r. Prompt t r G xs) new (sooner t (k + 1) (F + t.refc) G xs pace off)
