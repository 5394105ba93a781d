-- The clock from which on nothing but a refresh keeps a request from closing. Where no pair opens before it is due, either nothing waits or
-- that clock is still to come: at it the oldest request may open, and so the chosen one, by the law that a choice is willing.
use Prim.Native.Nat.{ℕ, ◌+◌, ◌-◌, ◌≤◌, ◌<◌, max}
use mathlib.Core.Path.{◌≡◌, refl, sym, ◌∙◌, ap}
use mathlib.Core.Bool.{Bool, true, false, cond, true≢false}
use mathlib.Core.List.{List, [], ◌∷◌}
use mathlib.Core.Option.{Option, none, some}
use mathlib.Core.Logic.{◌⊎◌, inl, inr, ⊎_elim}
use native.Mathlib.Omega.{arith}
use borrow.Author.Tests.{leb-true, leb-false}
use lib.Dec.{leb}
use Rattle.config.specs.declared.Timing.{Timing}
use Rattle.writing.specs.Writing.{pair_of, request_fits}
use Rattle.command.specs.declared.operation.Request.{Request}
use Rattle.command.specs.declared.operation.Operation.{Operation}
use Rattle.command.specs.declared.operation.Operation.TheVariants.{Access, Regular, Extended, Refresh}
use Rattle.rules.specs.History.{ClosedPair}
use Rattle.rules.specs.Rules.{was_read, was_write}
use Rattle.rules.proofs.Newest.{latest}
use Rattle.model.specs.Laid.{entry_at, start_up, refresh_due, asked, candidate, breachless, opening}
use Rattle.model.proofs.Figures.{Figures}
use Rattle.model.proofs.Candidates.{AllFit}
use Rattle.model.proofs.InTime.{last_ref, Normal}
use Rattle.model.proofs.Turn.{idle, refresh-held}
use Rattle.model.proofs.Choice.{may_open, Willing}
use Rattle.model.proofs.Access.{Clear, access-opens}

-- every spacing of a read or write that closes at F has run out
pub record Pace (t : Timing) (ps : List ClosedPair) (k F : ℕ) : Type 0 where
  pub now : k + 1 ≤ F
  pub ready : 202 ≤ F
  pub read : latest was_read ps + t.spacing ≤ F
  pub write : latest was_write ps + t.spacing ≤ F
  pub refresh : last_ref ps + t.refc ≤ F

-- F, the least such clock
abbrev pub soonest : Timing → List ClosedPair → ℕ → ℕ
soonest t ps k = max (max (k + 1) 202) (max (max (latest was_read ps + t.spacing) (latest was_write ps + t.spacing)) (last_ref ps + t.refc))

within-max : (a b c d e : ℕ) → let m = max (max a b) (max (max c d) e) in (a ≤ m) × (b ≤ m) × (c ≤ m) × (d ≤ m) × (e ≤ m)
within-max a b c d e = (omega arith, omega arith, omega arith, omega arith, omega arith)

-- at F every spacing has run out
pub soonest_pace : (t : Timing) (ps : List ClosedPair) (k : ℕ) → Pace t ps k (soonest t ps k)
soonest_pace t ps k =
    let w = within-max (k + 1) 202 (latest was_read ps + t.spacing) (latest was_write ps + t.spacing) (last_ref ps + t.refc) in
    record { now = w.0; ready = w.1; read = w.2; write = w.3; refresh = w.4 }

-- F is the least clock at which every spacing has run out
pub pace_soonest : (t : Timing) (ps : List ClosedPair) (k F : ℕ) → Pace t ps k F → soonest t ps k ≤ F
pace_soonest t ps k F p =
    let h₁ = p.now in
    let h₂ = p.ready in
    let h₃ = p.read in
    let h₄ = p.write in
    let h₅ = p.refresh in
    omega arith

-- what a tick comes to after the start-up, where no pair is open and x is chosen of the requests rs: nothing waits, or it is too soon; the
-- chosen one opens before a refresh is called for; or a refresh that is
abbrev pub Happens : Timing → List ClosedPair → ℕ → List Request → Option Request → Option Operation → Type 0
Happens t ps k rs x none = (rs ≡ []) ⊎ (k + 1 < soonest t ps k)
Happens t ps k rs x (some (Access r)) = (k + t.rc < last_ref ps + t.refi) × (x ≡ some r)
Happens t ps k rs x (some (Regular a3)) = ⊥
Happens t ps k rs x (some (Extended v)) = ⊥
Happens t ps k rs x (some Refresh) = last_ref ps + t.refi ≤ k + t.rc

module _ (t : Timing) (f : Figures t) (ps : List ClosedPair) (k : ℕ) (n : Normal t ps k) where
  abbrev may : Option Request → Bool
  may x = may_open t (idle k ps) x

  -- a request that may not open is too soon
  too_soon : (r : Request) → request_fits t r ≡ true → may (some r) ≡ false → k + 1 < soonest t ps k
  too_soon r a e = by (leb (soonest t ps k) (k + 1)) refl
    where
      by : (b : Bool) → leb (soonest t ps k) (k + 1) ≡ b → k + 1 < soonest t ps k
      by false h = leb-false (soonest t ps k) (k + 1) h
      by true h =
          let l = leb-true (soonest t ps k) (k + 1) h in
          let p = soonest_pace t ps k in
          let p₂ = p.ready in
          let p₃ = p.read in
          let p₄ = p.write in
          let p₅ = p.refresh in
          let c : Clear t f ps k n = record { ready = omega arith; read = omega arith; write = omega arith; refresh = omega arith } in
          absurd (true≢false (sym (access-opens t f ps k n r a c) ∙ e))

  -- where the chosen one may not open, the oldest may not, and so it is too soon
  held_back : (rs : List Request) (i : ℕ) → AllFit t rs → Willing t (idle k ps) rs i → may (entry_at i rs) ≡ false
      → (rs ≡ []) ⊎ (k + 1 < soonest t ps k)
  held_back [] i a w e = inl refl
  held_back (r ∷ rs) i a w e = go (may (some r)) refl
    where
      go : (b : Bool) → may (some r) ≡ b → (r ∷ rs ≡ []) ⊎ (k + 1 < soonest t ps k)
      go true z = absurd (true≢false (sym (w z) ∙ e))
      go false z = inr (too_soon r a.0 z)

  pub happens : (rs : List Request) (i : ℕ) → AllFit t rs → Willing t (idle k ps) rs i → start_up ps ≡ none
      → Happens t ps k rs (entry_at i rs) (opening t (idle k ps) (candidate t (idle k ps) (entry_at i rs)))
  happens rs i a w done = rw done (by (refresh_due t (idle k ps)) refl)
    where
      Comes : Option Operation → Type 0
      Comes o = Happens t ps k rs (entry_at i rs) o

      due : last_ref ps + t.refi ≤ k + t.rc → (b : Bool) → breachless t (idle k ps) (pair_of t Refresh) ≡ b
          → Comes (cond b (some Refresh) none)
      due d true e = d
      due d false e =
          let s = f.same-bank in
          ⊎_elim (λ h. absurd (omega arith)) (λ h. ⊎_elim (λ h. inr (omega arith)) (λ h. inr (omega arith)) h) (refresh-held t f ps k n d e)

      early : (x : Option Request) → entry_at i rs ≡ x → k + t.rc < last_ref ps + t.refi → Comes (opening t (idle k ps) (asked x))
      early none e h = held_back rs i a w (ap may e)
      early (some r) e h = go (may (some r)) refl
        where
          go : (b : Bool) → may (some r) ≡ b → Comes (cond b (some (Access r)) none)
          go true z = (h, e)
          go false z = held_back rs i a w (ap may e ∙ z)

      by : (b : Bool) → refresh_due t (idle k ps) ≡ b → Comes (opening t (idle k ps) (cond b (some Refresh) (asked (entry_at i rs))))
      by true e =
          let h = leb-true (last_ref ps + t.refi - t.rc) k e in
          due (omega arith) (breachless t (idle k ps) (pair_of t Refresh)) refl
      by false e =
          let h = leb-false (last_ref ps + t.refi - t.rc) k e in
          early (entry_at i rs) refl (omega arith)
