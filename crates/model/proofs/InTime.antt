-- After the start-up a refresh is never overdue: from r + D − RC on only a refresh opens, and what binds it runs out in time.
use Prim.Native.Nat.{ℕ, ◌+◌, ◌≤◌, ◌<◌}
use mathlib.Core.Path.{◌≡◌, sym, ◌∙◌}
use mathlib.Core.Bool.{Bool, true, false, cond, not}
use mathlib.Core.List.{List, ◌∷◌}
use mathlib.Core.Logic.{◌⊎◌, inl, inr, ⊎_elim}
use native.Mathlib.Omega.{arith}
use lib.ListN.{get_or}
use Rattle.config.specs.declared.Timing.{Timing}
use Rattle.rules.specs.History.{ClosedPair, free, Past}
use Rattle.rules.specs.Rules.{closings, oldest, was_read, was_write, was_mode, was_regular, was_extended, was_refresh}
use Rattle.rules.proofs.Newest.{Ordered, latest, latest_cons}
use Rattle.rules.proofs.Summary.{summary}
use Rattle.rules.proofs.Tests.{overdue-is}
use Rattle.rules.proofs.Gaps.{Gaps, gaps_cons, short-gaps}
use Rattle.rules.proofs.Words.{ordered_mono}
use Rattle.model.proofs.Figures.{Figures}
use Rattle.model.proofs.Intervals.{closings_fall, eighth}
use Rattle.model.proofs.Spacings.{InTime, RefreshFree}

-- the last REF word
abbrev pub last_ref : List ClosedPair → ℕ
last_ref ps = get_or (closings was_refresh ps) 0 0

-- k is no later than the clock from which a refresh is called for, or than the first at which one may follow the last access
abbrev pub Timely : Timing → List ClosedPair → ℕ → Type 0
Timely t ps k =
    (k + t.rc ≤ last_ref ps + t.refi) ⊎ ((k + 1 ≤ latest was_read ps + t.rc) ⊎ (k + 1 ≤ latest was_write ps + t.rc))

-- what rule 6 asks for stands, with the first extended MRS word at clock 1
pub record Ready (ps : List ClosedPair) : Type 0 where
  pub extended : oldest (closings was_extended ps) ≡ 1
  pub regular : 1 ≤ latest was_regular ps
  pub refresh : 1 ≤ last_ref ps
  pub second : 1 ≤ get_or (closings was_refresh ps) 1 0

-- what holds after the start-up at a clock k where no pair is open
pub record Normal (t : Timing) (ps : List ClosedPair) (k : ℕ) : Type 0 where
  pub ordered : Ordered k ps
  pub ready : Ready ps
  pub last : last_ref ps < k
  -- each REF word is at most D after the one before it
  pub gaps : Gaps t.refi (closings was_refresh ps)
  -- mode pairs are of the start-up alone
  pub mode : latest was_mode ps + t.rsc ≤ 31
  -- reads and writes began before a refresh was called for
  pub read : latest was_read ps + t.rc ≤ last_ref ps + t.refi
  pub write : latest was_write ps + t.rc ≤ last_ref ps + t.refi
  pub timely : Timely t ps k

-- a spacing counted from the pair that opened at k, or from an older one
pub latest-moved : (ps : List ClosedPair) (k : ℕ) (p : ClosedPair) → p.start ≡ k → (g : ClosedPair → Bool) (n G : ℕ) → k + 1 + n ≤ G
    → latest g ps + n ≤ G
    → latest g (p ∷ ps) + n ≤ G
latest-moved ps k p at g n G new old = rw (latest_cons g p ps) (by (g p))
  where
    by : (x : Bool) → cond x (p.start + 1) (latest g ps) + n ≤ G
    by true =
        let h = at in
        omega arith
    by false = old

-- where the gaps up to k are short, no refresh is overdue there
pub by-gaps : (t : Timing) (ps : List ClosedPair) (k : ℕ) → Gaps t.refi (k ∷ closings was_refresh ps) → InTime t (summary t.four ps) k
by-gaps t ps k g =
    let p : Past = record { clock = k; phase = free; pairs = ps } in
    sym (overdue-is t p 0) ∙ short-gaps t p 0 g

module _ (t : Timing) (f : Figures t) (ps : List ClosedPair) (k : ℕ) (n : Normal t ps k) where
  -- the next word is in time too
  next_in_time : k + 1 ≤ last_ref ps + t.refi
  next_in_time =
      let h₁ = f.rc.0 in
      let h₂ = n.read in
      let h₃ = n.write in
      ⊎_elim (λ h. omega arith) (λ h. ⊎_elim (λ h. omega arith) (λ h. omega arith) h) n.timely

  -- so every gap up to it is short, and no word up to it is overdue
  next-gap : (j : ℕ) → j ≤ k + 1 → Gaps t.refi (j ∷ closings was_refresh ps)
  next-gap j h =
      let l = next_in_time in
      gaps_cons t.refi j (closings was_refresh ps) (omega arith) n.gaps

  -- rule 3 is kept at this word and at the next
  pub in_time : (j : ℕ) → j ≤ k + 1 → InTime t (summary t.four ps) j
  in_time j h = by-gaps t ps j (next-gap j h)

  -- once called for, a refresh may open as soon as RC clocks have passed since the last read and the last write
  pub refresh-free : last_ref ps + t.refi ≤ k + t.rc → latest was_read ps + t.rc ≤ k + 1 → latest was_write ps + t.rc ≤ k + 1
      → RefreshFree t (summary t.four ps) (k + 1)
  refresh-free due read write =
      let h₁ = f.rc.1 in
      let h₂ = f.refc in
      let h₃ = f.refi in
      let h₄ = f.window in
      let h₅ = n.last in
      let h₆ = n.mode in
      record {
        mode = inr (omega arith);
        refresh = inr (omega arith);
        read = inr read;
        write = inr write;
        window =
            ⊎_elim (λ e. inl e) (λ h. inr (omega arith)) (eighth (closings was_refresh ps) (closings_fall was_refresh k ps n.ordered));
      }

  -- a refresh may not open yet
  abbrev pub Held : Type 0
  Held = (k + t.rc < last_ref ps + t.refi) ⊎ ((k + 1 < latest was_read ps + t.rc) ⊎ (k + 1 < latest was_write ps + t.rc))

  -- DESL where no refresh may open
  pub after-desl : Held → Normal t ps (k + 1)
  after-desl h =
      let l = n.last in
      record {
        ordered = ordered_mono k (k + 1) (omega arith) ps n.ordered;
        ready = n.ready;
        last = omega arith;
        gaps = n.gaps;
        mode = n.mode;
        read = n.read;
        write = n.write;
        timely = ⊎_elim (λ h. inl (omega arith)) (λ h. inr (⊎_elim (λ h. inl (omega arith)) (λ h. inr (omega arith)) h)) h;
      }

  module _ (p : ClosedPair) (at : p.start ≡ k) where
    ordered : Ordered (k + 2) (p ∷ ps)
    ordered = rw at (omega arith, n.ordered)

    -- neither a mode pair nor a refresh
    still_ready : was_mode p ≡ false → was_refresh p ≡ false → Ready (p ∷ ps)
    still_ready m e =
        record {
          extended = rw m n.ready.extended;
          regular = rw m n.ready.regular;
          refresh = rw e n.ready.refresh;
          second = rw e n.ready.second;
        }

    -- a read or write, where no refresh is called for
    pub after-access : (read : Bool) → was_read p ≡ read → was_write p ≡ not read → was_mode p ≡ false → was_refresh p ≡ false
        → k + t.rc < last_ref ps + t.refi → Normal t (p ∷ ps) (k + 2)
    after-access read r w m e h =
        let l = n.last in
        let c = f.rc.0 in
        let reads = n.read in
        let writes = n.write in
        record {
          ordered = ordered;
          ready = still_ready m e;
          last = rw e (omega arith);
          gaps = rw e n.gaps;
          mode = rw m n.mode;
          read = rw e (latest-moved ps k p at was_read t.rc (last_ref ps + t.refi) (omega arith) reads);
          write = rw e (latest-moved ps k p at was_write t.rc (last_ref ps + t.refi) (omega arith) writes);
          timely = inr (by read r w);
        }
      where
        by : (read : Bool) → was_read p ≡ read → was_write p ≡ not read
            → (k + 2 + 1 ≤ latest was_read (p ∷ ps) + t.rc) ⊎ (k + 2 + 1 ≤ latest was_write (p ∷ ps) + t.rc)
        by true r w =
            let c = f.rc.0 in
            inl (rw (r, at) (omega arith))
        by false r w =
            let c = f.rc.0 in
            inr (rw (w, at) (omega arith))

    -- a refresh, once it is called for
    pub after-refresh : was_read p ≡ false → was_write p ≡ false → was_mode p ≡ false → was_refresh p ≡ true
        → last_ref ps + t.refi ≤ k + t.rc → Normal t (p ∷ ps) (k + 2)
    after-refresh r w m e due =
        let l = n.last in
        let c = f.rc.1 in
        let d = f.refi in
        let b = n.read in
        let q = n.write in
        record {
          ordered = ordered;
          ready =
              record {
                extended = rw m n.ready.extended;
                regular = rw m n.ready.regular;
                refresh = rw e (omega arith);
                second = rw e n.ready.refresh;
              };
          last = rw (e, at) (omega arith);
          gaps = rw e (next-gap (p.start + 1) (omega arith));
          mode = rw m n.mode;
          read = rw (e, r, at) (omega arith);
          write = rw (e, w, at) (omega arith);
          timely = rw (e, r, w, at) (inl (omega arith));
        }
