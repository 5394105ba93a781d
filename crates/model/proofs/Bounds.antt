-- From power-up on, every tick between pairs keeps the bounds of the waiting requests, and a request opens within its own. In the start-up
-- all of them may close at 202 still, whatever pair opens; behind it the choice is fair and willing.
use Prim.Native.Nat.{ℕ, ◌+◌, ◌≤◌}
use mathlib.Core.Path.{◌≡◌, refl, subst}
use mathlib.Core.Bool.{true, false, not, and-false}
use mathlib.Core.List.{List, [], ◌∷◌, map}
use mathlib.Core.Option.{Option, none, some}
use mathlib.Core.Logic.{⊎_elim}
use native.Mathlib.Omega.{arith}
use native.Mathlib.Nat.{le_trans, le_refl}
use Rattle.config.specs.declared.Timing.{Timing}
use Rattle.command.specs.Pairs.{rda}
use Rattle.writing.specs.Writing.{pair_of, request_fits}
use Rattle.command.specs.declared.operation.Request.{Request}
use Rattle.command.specs.declared.operation.Operation.{Operation}
use Rattle.command.specs.declared.operation.Operation.TheVariants.{Access, Regular, Extended, Refresh}
use Rattle.rules.specs.History.{ClosedPair}
use Rattle.rules.specs.Rules.{was_read, was_write, was_refresh}
use Rattle.rules.proofs.Newest.{latest}
use Rattle.queue.specs.Place.{without}
use Rattle.model.specs.Laid.{entry_at, candidate, opening}
use Rattle.model.proofs.Figures.{Figures}
use Rattle.model.proofs.Candidates.{FitIf, entry-fits}
use Rattle.model.proofs.Places.{entry-map}
use Rattle.model.proofs.InTime.{last_ref}
use Rattle.model.proofs.Turn.{pair_at, idle, closes_with_lal}
use Rattle.model.proofs.StartUp.{extended, regular, pins, regular-turn, first-refresh-turn, second-refresh-turn}
use Rattle.model.proofs.Phases.{Phase, begin, after-extended, after-regular, after-refresh, settled}
use Rattle.model.proofs.Prompt.{Awaited, requests, lower, sooner, later_ref}
use Rattle.model.proofs.Choice.{Willing, Fair}
use Rattle.model.proofs.Soonest.{Pace, soonest, soonest_pace, pace_soonest, Happens, happens}
use Rattle.model.proofs.Punctual.{Punctual, Queue, idle-punctual, access-punctual, refresh-punctual}

-- the request at i, which is r, opens at k within its bound, and the others hold theirs behind it
pub record Served (t : Timing) (ps : List ClosedPair) (k : ℕ) (xs : List Awaited) (i : ℕ) (r : Request) : Type 0 where
  pub entry : Awaited
  pub chosen : entry_at i xs ≡ some entry
  pub is : entry.request ≡ r
  pub in_time : k + 1 ≤ entry.bound
  pub others : Punctual t (pair_at t k (Access r) ∷ ps) (k + 2) (map lower (without i xs))

-- the bounds hold behind what opens at k where the request at i is chosen
abbrev pub Kept : Timing → List ClosedPair → ℕ → List Awaited → ℕ → Option Operation → Type 0
Kept t ps k xs i none = Punctual t ps (k + 1) xs
Kept t ps k xs i (some (Access r)) = Served t ps k xs i r
Kept t ps k xs i (some (Regular a3)) = Punctual t (pair_at t k (Regular a3) ∷ ps) (k + 2) xs
Kept t ps k xs i (some (Extended v)) = Punctual t (pair_at t k (Extended v) ∷ ps) (k + 2) xs
Kept t ps k xs i (some Refresh) = Punctual t (pair_at t k Refresh ∷ ps) (k + 2) xs

settled-kept : (t : Timing) (f : Figures t) (ps : List ClosedPair) (k : ℕ) (xs : List Awaited) (i : ℕ) → Fair xs i → Queue t ps k xs
    → (o : Option Operation) → Happens t ps k (requests xs) (entry_at i (requests xs)) o → Kept t ps k xs i o
settled-kept t f ps k xs i fair q none h = idle-punctual t f ps k xs h q.punctual
settled-kept t f ps k xs i fair q (some (Access r)) h =
    let x = entry-map (λ x. x.request) i xs r h.1 in
    let m = access-punctual t f ps k (pair_at t k (Access r)) refl i xs x.0 x.1 (fair x.0 x.1) no_refresh q.punctual in
    record { entry = x.0; chosen = x.1; is = x.2; in_time = m.0; others = m.1 }
  where
    closes : request_fits t r ≡ true
    closes = subst (FitIf t) h.1 (entry-fits t i (requests xs) q.fit)

    no_refresh : was_refresh (pair_at t k (Access r)) ≡ false
    no_refresh = rw (closes_with_lal t f (Access r) closes, and-false (not (rda (pair_of t (Access r)).first)))
settled-kept t f ps k xs i fair q (some (Regular a3)) h = absurd h
settled-kept t f ps k xs i fair q (some (Extended v)) h = absurd h
settled-kept t f ps k xs i fair q (some Refresh) h =
    refresh-punctual t f ps k (pair_at t k Refresh) refl xs refl refl refl h q.near q.punctual

module _ (t : Timing) (f : Figures t) where
  -- in the start-up all may close at 202 still
  start-kept : (ps qs : List ClosedPair) (k j : ℕ) (xs : List Awaited) → Punctual t ps k xs → j + 1 ≤ 202 → latest was_read qs ≡ 0
      → latest was_write qs ≡ 0 → last_ref qs + t.refc ≤ 202 → last_ref ps ≤ last_ref qs → Punctual t qs j xs
  start-kept ps qs k j xs q now read write refresh r =
      let s = f.spacing in
      let pace : Pace t qs j 202 =
      record { now = now; ready = omega arith; read = rw read (omega arith); write = rw write (omega arith); refresh = refresh } in
      let by = le_trans (pace_soonest t qs j 202 pace) (soonest_pace t ps k).ready in
      later_ref t (last_ref ps) (last_ref qs) (soonest t qs j) xs r (sooner t (last_ref ps) (soonest t ps k) (soonest t qs j) xs by q)

  abbrev modes : ℕ → List ClosedPair
  modes g = regular t f g ∷ extended t f ∷ []

  -- the pairs of the start-up hold no read and no write
  no_read : (g : ℕ) → latest was_read (modes g) ≡ 0
  no_read g = rw (pins t f).closes

  -- every tick between pairs
  pub phase-kept : (ps : List ClosedPair) (k : ℕ) (xs : List Awaited) (i : ℕ) → Fair xs i → Willing t (idle k ps) (requests xs) i
      → Phase t f ps k → Queue t ps k xs → Kept t ps k xs i (opening t (idle k ps) (candidate t (idle k ps) (entry_at i (requests xs))))
  phase-kept ps k xs i fair willing (begin e z) q =
      let refc = f.refc.1 in
      let none_yet : last_ref ps ≤ 0 = rw e (le_refl 0) in
      let kept = start-kept ps (extended t f ∷ []) k 2 xs q.punctual (omega arith) refl refl (omega arith) none_yet in
      rw (e, z) kept
  phase-kept ps k xs i fair willing (after-extended e low high) q =
      let refc = f.refc.1 in
      let rsc = f.rsc.1 in
      let none_yet : last_ref ps ≤ 0 = rw e (le_refl 0) in
      let opens = start-kept ps (modes k) k (k + 2) xs q.punctual (omega arith) (no_read k) refl (omega arith) none_yet in
      let waits = start-kept ps (extended t f ∷ []) k (k + 1) xs q.punctual (omega arith) refl refl (omega arith) none_yet in
      rw e (⊎_elim (λ h. rw h opens) (λ h. rw h.0 waits) (regular-turn t f k low))
  phase-kept ps k xs i fair willing (after-regular g early late e low high) q =
      let y = entry_at i (requests xs) in
      let next : candidate t (idle k (modes g)) y ≡ some Refresh = rw ((pins t f).closes, (pins t f).ba0) in
      let refc = f.refc.1 in
      let rsc = f.rsc.1 in
      let none_yet : last_ref ps ≤ 0 = rw e (le_refl 0) in
      let qs = pair_at t k Refresh ∷ modes g in
      let later : last_ref ps ≤ k + 1 = omega arith in
      let opens = start-kept ps qs k (k + 2) xs q.punctual (omega arith) (no_read g) refl (omega arith) later in
      let waits = start-kept ps (modes g) k (k + 1) xs q.punctual (omega arith) (no_read g) refl (omega arith) none_yet in
      rw (e, next) (⊎_elim (λ h. rw h opens) (λ h. rw h.0 waits) (first-refresh-turn t f g early late k low))
  phase-kept ps k xs i fair willing (after-refresh g e early late after by is low high) q =
      let y = entry_at i (requests xs) in
      let older = pair_at t e Refresh ∷ modes g in
      let next : candidate t (idle k older) y ≡ some Refresh = rw ((pins t f).closes, (pins t f).ba0) in
      let refc = f.refc.1 in
      let rsc = f.rsc.1 in
      let last : last_ref ps ≤ e + 1 = rw is (le_refl (e + 1)) in
      let qs = pair_at t k Refresh ∷ older in
      let later : last_ref ps ≤ k + 1 = omega arith in
      let opens = start-kept ps qs k (k + 2) xs q.punctual (omega arith) (no_read g) refl (omega arith) later in
      let waits = start-kept ps older k (k + 1) xs q.punctual (omega arith) (no_read g) refl (omega arith) last in
      rw (is, next) (⊎_elim (λ h. rw h opens) (λ h. rw h.0 waits) (second-refresh-turn t f g early late e k after by low high))
  phase-kept ps k xs i fair willing (settled done n) q =
      let y = entry_at i (requests xs) in
      settled-kept t f ps k xs i fair q (opening t (idle k ps) (candidate t (idle k ps) y))
      (happens t f ps k n (requests xs) i q.fit willing done)
