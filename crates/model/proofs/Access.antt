-- A request opens as soon as S clocks have passed since the last read and the last write, and REFC since the last refresh, from clock 201
-- on and before the next refresh is called for.
use Prim.Native.Nat.{ℕ, ◌+◌, ◌-◌, ◌≤◌}
use mathlib.Core.Path.{◌≡◌}
use mathlib.Core.Bool.{Bool, true, false, cond, ◌&&◌, ◌||◌}
use mathlib.Core.List.{List, [], ◌∷◌}
use mathlib.Core.Logic.{◌⊎◌, inl, inr, ⊎_elim}
use native.Mathlib.Omega.{arith}
use native.Mathlib.Nat.{le_refl}
use borrow.Author.Tests.{ne_eqb, le-ltb}
use lib.ListN.{get_or}
use lib.Dec.{eqb}
use Rattle.config.specs.declared.Timing.{Timing}
use Rattle.writing.specs.Writing.{pair_of, request_fits}
use Rattle.command.specs.declared.operation.Request.{Request}
use Rattle.command.specs.declared.operation.Operation.TheVariants.{Access}
use Rattle.roundtrip.proofs.WrittenBack.{written_back}
use Rattle.rules.specs.History.{ClosedPair, pair, free}
use Rattle.command.specs.Address.{bank_of}
use Rattle.rules.specs.Rules.{closings, was_read, was_write, was_regular, was_refresh}
use Rattle.rules.specs.Breaches.{not_ready}
use Rattle.rules.proofs.Newest.{Ordered, latest, latest_cons}
use Rattle.rules.proofs.Summary.{summary, of_bank, get_bank, bank-bound}
use Rattle.rules.proofs.Tests.{closing-bound}
use Rattle.rules.proofs.Words.{ordered_mono, breach-is}
use Rattle.model.specs.Laid.{breachless}
use Rattle.model.proofs.Figures.{Figures}
use Rattle.roundtrip.proofs.SoundPair.{sound-tests}
use Rattle.model.proofs.Spacings.{AccessFree, sound-first, access-closes}
use Rattle.model.proofs.InTime.{last_ref, Normal, in_time}
use Rattle.model.proofs.Turn.{idle, closes_with_lal}

-- the last access of a bank is no later than the last read or the last write
bank-latest : (four : Bool) (b k : ℕ) (ps : List ClosedPair) → Ordered k ps
    → (latest (of_bank four b) ps ≤ latest was_read ps) ⊎ (latest (of_bank four b) ps ≤ latest was_write ps)
bank-latest four b k [] o = inl (le_refl 0)
bank-latest four b k (p ∷ ps) o =
    rw (latest_cons (of_bank four b) p ps, latest_cons was_read p ps, latest_cons was_write p ps)
    (go (was_read p) (was_write p) (eqb (bank_of four p.first) b) (bank-latest four b p.start ps o.1))
  where
    bound : latest (of_bank four b) ps ≤ p.start
    bound = closing-bound (of_bank four b) p.start ps o.1 0

    upto : (x : Bool) → cond x (p.start + 1) (latest (of_bank four b) ps) ≤ p.start + 1
    upto true = le_refl (p.start + 1)
    upto false =
        let h = bound in
        omega arith

    go : (r w q : Bool) → (latest (of_bank four b) ps ≤ latest was_read ps) ⊎ (latest (of_bank four b) ps ≤ latest was_write ps)
        → (cond ((r || w) && q) (p.start + 1) (latest (of_bank four b) ps) ≤ cond r (p.start + 1) (latest was_read ps))
        ⊎ (cond ((r || w) && q) (p.start + 1) (latest (of_bank four b) ps) ≤ cond w (p.start + 1) (latest was_write ps))
    go true w q older = inl (upto q)
    go false true q older = inr (upto q)
    go false false q older = older

module _ (t : Timing) (f : Figures t) (ps : List ClosedPair) (k : ℕ) (n : Normal t ps k) where
  -- every spacing has run out for a read or write at k
  pub record Clear : Type 0 where
    pub ready : 201 ≤ k
    pub read : latest was_read ps + t.spacing ≤ k + 1
    pub write : latest was_write ps + t.spacing ≤ k + 1
    pub refresh : last_ref ps + t.refc ≤ k + 1

  is-ready : 201 ≤ k
      → not_ready (summary t.four ps).extended (summary t.four ps).regular (get_or (summary t.four ps).refs 1 0) (k + 1) ≡ false
  is-ready h =
      let g = n.ready.regular in
      let s = n.ready.second in
      rw (
        n.ready.extended,
        ne_eqb (latest was_regular ps) 0 (λ e. omega arith),
        ne_eqb (get_or (closings was_refresh ps) 1 0) 0 (λ e. omega arith),
        le-ltb (k + 1) (1 + 201) (omega arith),
      )

  module _ (r : Request) (fits : request_fits t r ≡ true) where
    abbrev first : ℕ
    first = (pair_of t (Access r)).first

    abbrev second : ℕ
    second = (pair_of t (Access r)).second

    access-free : Clear → AccessFree t (summary t.four ps) (k + 1) first second
    access-free c =
        let w = written_back t f.bl f.cl (Access r) fits in
        let read = c.read in
        let write = c.write in
        let rc = f.same-bank in
        let rbd = f.any_bank in
        let rwd = f.read-write in
        let wrd = f.write_read in
        let ready = c.ready in
        let mode = n.mode in
        record {
          sound = w.0;
          lal = closes_with_lal t f (Access r) fits;
          ready = is-ready ready;
          bank =
              rw (get_bank (λ b. latest (of_bank t.four b) ps) (bank_of t.four first) (bank-bound t.four first))
              (inr (⊎_elim (λ h. omega arith) (λ h. omega arith) (bank-latest t.four (bank_of t.four first) k ps n.ordered)));
          read = inr (omega arith);
          write = inr (omega arith);
          turn-write = inr (omega arith);
          turn-read = inr (omega arith);
          mode = inr (omega arith);
          refresh = inr c.refresh;
        }

    pub access-opens : Clear → breachless t (idle k ps) (pair_of t (Access r)) ≡ true
    access-opens c =
        let a = access-free c in
        let w = sound-tests t first second a.sound in
        let before = ordered_mono k (k + 1 - 1) (omega arith) ps n.ordered in
        rw (
          breach-is t free k ps first (omega arith, n.ordered),
          sound-first t (summary t.four ps) k first second (in_time t f ps k n k (omega arith)) a.sound,
          w.pd₁,
          w.cs,
          breach-is t (pair first) (k + 1) ps second (omega arith, before, rw w.cs),
          access-closes t (summary t.four ps) (k + 1) first second (in_time t f ps k n (k + 1) (le_refl (k + 1))) a,
        )
