-- A tick after the start-up, where no pair is open: what opens, or that nothing does, leaves the next refresh in time.
use Prim.Native.Nat.{ℕ, ◌+◌, ◌-◌, ◌≤◌, ◌<◌}
use mathlib.Core.Path.{◌≡◌, refl, sym, ap, ◌∙◌}
use mathlib.Core.Bool.{Bool, true, false, cond, not, and-true, and-false, true≢false}
use mathlib.Core.List.{List, ◌∷◌}
use mathlib.Core.Option.{Option, none, some}
use mathlib.Core.Logic.{inl, inr}
use native.Mathlib.Omega.{arith}
use native.Mathlib.Nat.{le_refl}
use borrow.Author.Tests.{leb-true, leb-false}
use lib.Dec.{leb}
use Rattle.config.specs.declared.Timing.{Timing}
use Rattle.command.specs.Pins.{high}
use Rattle.command.specs.Pairs.{rda, lal}
use Rattle.reading.specs.Reading.{mode_by, access_of, operation_of}
use Rattle.writing.specs.Writing.{pair_of, operation_fits}
use Rattle.command.specs.declared.operation.Request.{Request}
use Rattle.command.specs.declared.operation.Operation.{Operation}
use Rattle.command.specs.declared.operation.Operation.TheVariants.{Access, Refresh}
use Rattle.roundtrip.proofs.WrittenBack.{written_back}
use Rattle.rules.specs.History.{ClosedPair, pair, free, Past}
use Rattle.rules.specs.Rules.{was_read, was_write}
use Rattle.rules.proofs.Newest.{Ordered, latest}
use Rattle.rules.proofs.Summary.{summary}
use Rattle.rules.proofs.Words.{ordered_mono, breach-is}
use Rattle.model.specs.Runs.{is_access}
use Rattle.model.specs.Laid.{start_up, refresh_due, asked, candidate, breachless, opening}
use Rattle.model.proofs.Figures.{Figures}
use Rattle.model.proofs.Candidates.{FitIf}
use Rattle.model.proofs.Spacings.{InTime, RefreshFree, refresh-first, refresh-closes}
use Rattle.model.proofs.InTime.{last_ref, Normal, in_time, refresh-free, Held, after-desl, after-access, after-refresh}

-- the closed pair of an operation that opened at u
abbrev pub pair_at : Timing → ℕ → Operation → ClosedPair
pair_at t u o = record { start = u; first = (pair_of t o).first; second = (pair_of t o).second }

-- a past between two pairs
abbrev pub idle : ℕ → List ClosedPair → Past
idle k ps = record { clock = k; phase = free; pairs = ps }

-- a refresh that nothing holds back opens
pub refresh-opens : (t : Timing) (ps : List ClosedPair) (k : ℕ) → Ordered k ps → InTime t (summary t.four ps) k
    → InTime t (summary t.four ps) (k + 1)
    → RefreshFree t (summary t.four ps) (k + 1) → breachless t (idle k ps) (pair_of t Refresh) ≡ true
refresh-opens t ps k o now next may =
    let before = ordered_mono k (k + 1 - 1) (omega arith) ps o in
    rw (
      breach-is t free k ps 0x80000 (omega arith, o),
      breach-is t (pair 0x80000) (k + 1) ps 0x80000 (omega arith, before, refl),
      refresh-first t (summary t.four ps) k now,
      refresh-closes t (summary t.four ps) (k + 1) next may,
    )

-- a pair that reads as an access has LAL, and no other
access-lal : (t : Timing) (f s : ℕ) → lal s ≡ is_access (operation_of t f s)
access-lal t f s = go (lal s) (rda f) (high 14 s)
  where
    go : (l a x : Bool) → l ≡ is_access (cond l (Access (access_of t (not (rda f)) f s)) (cond a (mode_by x s) Refresh))
    go true a x = refl
    go false true true = refl
    go false true false = refl
    go false false x = refl

-- an operation in range closes with LAL if it is a read or write, and else not
pub closes_with_lal : (t : Timing) (f : Figures t) (o : Operation) → operation_fits t o ≡ true → lal (pair_of t o).second ≡ is_access o
closes_with_lal t f o fits =
    let w = pair_of t o in
    access-lal t w.first w.second ∙ ap is_access (written_back t f.bl f.cl o fits).1

module _ (t : Timing) (f : Figures t) (ps : List ClosedPair) (k : ℕ) (n : Normal t ps k) where
  -- how it goes on
  abbrev pub Next : Option Operation → Type 0
  Next none = Normal t ps (k + 1)
  Next (some o) = Normal t (pair_at t k o ∷ ps) (k + 2)

  -- a refresh that is called for and does not open is held back
  pub refresh-held : last_ref ps + t.refi ≤ k + t.rc → breachless t (idle k ps) (pair_of t Refresh) ≡ false → Held t f ps k n
  refresh-held due e = by (leb (latest was_read ps + t.rc) (k + 1)) (leb (latest was_write ps + t.rc) (k + 1)) refl refl
    where
      by : (a b : Bool) → leb (latest was_read ps + t.rc) (k + 1) ≡ a → leb (latest was_write ps + t.rc) (k + 1) ≡ b → Held t f ps k n
      by true true p q =
          let read = leb-true (latest was_read ps + t.rc) (k + 1) p in
          let write = leb-true (latest was_write ps + t.rc) (k + 1) q in
          let opens = refresh-opens t ps k n.ordered (in_time t f ps k n k (omega arith))
          (in_time t f ps k n (k + 1) (le_refl (k + 1))) (refresh-free t f ps k n due read write) in
          absurd (true≢false (sym opens ∙ e))
      by false b p q = inr (inl (leb-false (latest was_read ps + t.rc) (k + 1) p))
      by true false p q = inr (inr (leb-false (latest was_write ps + t.rc) (k + 1) q))

  -- where a refresh is called for
  due-turn : last_ref ps + t.refi ≤ k + t.rc → Next (opening t (idle k ps) (some Refresh))
  due-turn due = by (breachless t (idle k ps) (pair_of t Refresh)) refl
    where
      by : (b : Bool) → breachless t (idle k ps) (pair_of t Refresh) ≡ b → Next (cond b (some Refresh) none)
      by true e = after-refresh t f ps k n (pair_at t k Refresh) refl refl refl refl refl due
      by false e = after-desl t f ps k n (refresh-held due e)

  -- where none is
  early-turn : (x : Option Request) → FitIf t x → k + t.rc < last_ref ps + t.refi → Next (opening t (idle k ps) (asked x))
  early-turn none a h = after-desl t f ps k n (inl h)
  early-turn (some r) a h = by (breachless t (idle k ps) (pair_of t (Access r)))
    where
      first : ℕ
      first = (pair_of t (Access r)).first

      closes : lal (pair_of t (Access r)).second ≡ true
      closes = closes_with_lal t f (Access r) a

      by : (b : Bool) → Next (cond b (some (Access r)) none)
      by true =
          after-access t f ps k n (pair_at t k (Access r)) refl (rda first) (rw (closes, and-true (rda first)))
          (rw (closes, and-true (not (rda first)))) (rw (closes, and-false (rda first))) (rw (closes, and-false (not (rda first)))) h
      by false = after-desl t f ps k n (inl h)

  -- any tick
  pub turn : (x : Option Request) → FitIf t x → start_up ps ≡ none → Next (opening t (idle k ps) (candidate t (idle k ps) x))
  turn x a done = rw done (by (refresh_due t (idle k ps)) refl)
    where
      by : (b : Bool) → refresh_due t (idle k ps) ≡ b → Next (opening t (idle k ps) (cond b (some Refresh) (asked x)))
      by true e =
          let h = leb-true (last_ref ps + t.refi - t.rc) k e in
          due-turn (omega arith)
      by false e =
          let h = leb-false (last_ref ps + t.refi - t.rc) k e in
          early-turn x a (omega arith)
