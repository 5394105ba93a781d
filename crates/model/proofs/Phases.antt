-- Where a controller stands between pairs, from the start-up on, and where a tick leads from there.
use Prim.Native.Nat.{ℕ, ◌+◌, ◌*◌, ◌≤◌}
use mathlib.Core.Path.{◌≡◌, refl, ap}
use mathlib.Core.Bool.{Bool, true, false, cond, true≢false}
use mathlib.Core.List.{List, [], ◌∷◌}
use mathlib.Core.Option.{Option, none, some}
use mathlib.Core.Logic.{inl, ⊎_elim}
use native.Mathlib.Omega.{arith}
use borrow.Author.Tests.{leb-true, le-leb}
use lib.ListN.{length}
use lib.Dec.{leb}
use Rattle.config.specs.declared.Timing.{Timing}
use Rattle.command.specs.declared.operation.Request.{Request}
use Rattle.command.specs.declared.operation.Operation.{Operation}
use Rattle.command.specs.declared.operation.Operation.TheVariants.{Regular, Extended, Refresh}
use Rattle.rules.specs.History.{ClosedPair}
use Rattle.rules.specs.Rules.{closings, was_extended, was_regular, was_refresh}
use Rattle.model.specs.Laid.{start_up, candidate, opening}
use Rattle.model.proofs.Figures.{Figures}
use Rattle.model.proofs.Candidates.{FitIf}
use Rattle.model.proofs.InTime.{Normal}
use Rattle.model.proofs.Turn.{pair_at, idle, turn, Next as Turned}
use Rattle.model.proofs.StartUp.{extended, regular, pins, regular-turn, first-refresh-turn, second-refresh-turn}

-- the start-up stays done
abbrev present : Option Operation → Bool
present none = false
present (some o) = true

more : (f : ClosedPair → Bool) (p : ClosedPair) (ps : List ClosedPair) (m : ℕ) → leb m (length (closings f ps)) ≡ true
    → leb m (length (closings f (p ∷ ps))) ≡ true
more f p ps m h = go (f p)
  where
    go : (x : Bool) → leb m (length (cond x ((p.start + 1) ∷ closings f ps) (closings f ps))) ≡ true
    go true =
        let l = leb-true m (length (closings f ps)) h in
        le-leb m (length ((p.start + 1) ∷ closings f ps)) (omega arith)
    go false = h

-- one more pair leaves the start-up done
pub stays_done : (p : ClosedPair) (ps : List ClosedPair) → start_up ps ≡ none → start_up (p ∷ ps) ≡ none
stays_done p ps e =
    let r = go (leb 1 (length (closings was_extended ps))) (leb 1 (length (closings was_regular ps)))
    (leb 2 (length (closings was_refresh ps))) (ap present e) in
    rw (more was_extended p ps 1 r.0, more was_regular p ps 1 r.1, more was_refresh p ps 2 r.2)
  where
    go : (a b c : Bool) → present (cond a (cond b (cond c none (some Refresh)) (some (Regular false))) (some (Extended 0))) ≡ false
        → (a ≡ true) × (b ≡ true) × (c ≡ true)
    go true true true h = (refl, refl, refl)
    go true true false h = absurd (true≢false h)
    go true false c h = absurd (true≢false h)
    go false b c h = absurd (true≢false h)

module _ (t : Timing) (f : Figures t) where
  -- before each pair of the start-up, by how far the schedule lets it wait, and behind it
  pub data Phase (ps : List ClosedPair) (k : ℕ) : Type 0 where
    begin : ps ≡ [] → k ≡ 0 → Phase ps k
    after-extended : ps ≡ extended t f ∷ [] → 2 ≤ k → k ≤ t.rsc → Phase ps k
    after-regular : (g : ℕ) → 2 ≤ g → g ≤ t.rsc → ps ≡ regular t f g ∷ extended t f ∷ [] → g + 2 ≤ k → k ≤ 2 * t.rsc → Phase ps k
    after-refresh : (g e : ℕ) → 2 ≤ g → g ≤ t.rsc → g + 2 ≤ e → e ≤ 2 * t.rsc
        → ps ≡ pair_at t e Refresh ∷ regular t f g ∷ extended t f ∷ [] → e + 2 ≤ k → k ≤ 2 * t.rsc + t.refc → Phase ps k
    settled : start_up ps ≡ none → Normal t ps k → Phase ps k

  -- where a tick leads that opens nothing, or a pair
  abbrev pub Next : List ClosedPair → ℕ → Option Operation → Type 0
  Next ps k none = Phase ps (k + 1)
  Next ps k (some o) = Phase (pair_at t k o ∷ ps) (k + 2)

  -- the start-up is over with its second refresh
  settle : (g e k : ℕ) → 2 ≤ g → g ≤ t.rsc → g + 2 ≤ e → e ≤ 2 * t.rsc → e + 2 ≤ k → k ≤ 2 * t.rsc + t.refc
      → Phase (pair_at t k Refresh ∷ pair_at t e Refresh ∷ regular t f g ∷ extended t f ∷ []) (k + 2)
  settle g e k early late after by low high =
      let long = f.refi in
      let rc = f.rc.1 in
      let rsc = f.rsc.1 in
      let refc = f.refc.1 in
      settled (rw ((pins t f).closes, (pins t f).ba0))
      (record {
        ordered = (omega arith, (omega arith, (omega arith, (omega arith, tt))));
        ready =
            record {
              extended = rw ((pins t f).closes, (pins t f).ba0);
              regular = rw ((pins t f).closes, (pins t f).ba0) (omega arith);
              refresh = omega arith;
              second = omega arith;
            };
        last = omega arith;
        gaps = (omega arith, tt);
        mode = rw (pins t f).closes (omega arith);
        read = rw (pins t f).closes (omega arith);
        write = omega arith;
        timely = inl (omega arith);
      })

  pub phase-turn : (ps : List ClosedPair) (k : ℕ) (x : Option Request) → FitIf t x → Phase ps k
      → Next ps k (opening t (idle k ps) (candidate t (idle k ps) x))
  phase-turn ps k x a (begin e z) = rw (e, z) (let h = f.rsc.0 in after-extended refl (omega arith) h)
  phase-turn ps k x a (after-extended e low high) =
      rw e
      (⊎_elim (λ h. rw h (after-regular k low high refl (omega arith) (omega arith)))
      (λ h. rw h.0 (let l = h.1 in after-extended refl (omega arith) (omega arith))) (regular-turn t f k low))
  phase-turn ps k x a (after-regular g early late e low high) =
      let next : candidate t (idle k (regular t f g ∷ extended t f ∷ [])) x ≡ some Refresh = rw ((pins t f).closes, (pins t f).ba0) in
      let long = f.refc.0 in
      rw (e, next)
      (⊎_elim (λ h. rw h (after-refresh g k early late low high refl (omega arith) (omega arith)))
      (λ h. rw h.0 (let l = h.1 in after-regular g early late refl (omega arith) (omega arith)))
      (first-refresh-turn t f g early late k low))
  phase-turn ps k x a (after-refresh g e early late after by is low high) =
      let next : candidate t (idle k (pair_at t e Refresh ∷ regular t f g ∷ extended t f ∷ [])) x ≡ some Refresh =
      rw ((pins t f).closes, (pins t f).ba0) in
      rw (is, next)
      (⊎_elim (λ h. rw h (settle g e k early late after by low high))
      (λ h. rw h.0 (let l = h.1 in after-refresh g e early late after by refl (omega arith) (omega arith)))
      (second-refresh-turn t f g early late e k after by low high))
  phase-turn ps k x a (settled done n) = go (opening t (idle k ps) (candidate t (idle k ps) x)) (turn t f ps k n x a done)
    where
      go : (o : Option Operation) → Turned t f ps k n o → Next ps k o
      go none m = settled done m
      go (some o) m = settled (stays_done (pair_at t k o) ps done) m
