-- Words that breach nothing: DESL, the two of a read or write, those of a sleep; and a run over what is kept goes on past any number of
-- them.
use Prim.Native.Nat.{ℕ, zero, suc, ◌+◌, ◌/◌, ◌^◌, ◌≤◌, ◌<◌}
use mathlib.Core.Path.{◌≡◌, refl, sym, ◌∙◌, ap}
use mathlib.Core.Bool.{true, false, not, cond, ◌||◌, and-false}
use mathlib.Core.List.{List}
use native.Mathlib.Omega.{arith}
use native.Mathlib.Nat.{add-zero, add-suc}
use native.Mathlib.Numerals.{add-one}
use borrow.Author.Tests.{le-ltb, lt-leb}
use lib.ListN.{length, get_or, set, drop}
use lib.Dec.{eqb}
use Rattle.config.specs.declared.Timing.{Timing}
use Rattle.command.specs.Pins.{high}
use Rattle.command.specs.Pairs.{rda}
use Rattle.command.specs.Address.{bank_of}
use Rattle.reading.specs.Reading.{lane_reserved}
use Rattle.stamps.specs.Stamps.{is_powered_down, is_exiting}
use Rattle.rules.specs.Breaches.{near, bank_stamp, too_close, deadline, overdue, must_stay_high, early_at, closing_breach}
use Rattle.rules.specs.Verdict.{Judgement}
use Rattle.stamps.specs.declared.Timestamps.{Timestamps}
use Rattle.breaches.proofs.ByKind.{at-lal}
use Rattle.rules.proofs.Words.{run, run-passes}
use Rattle.bytecheck.specs.Passed.{Passes, Passed, none, more}
use Rattle.bytecheck.specs.Quick.{Settled, Quiet}
use Rattle.stamps.specs.declared.Kept.{Kept}

-- an event that is far enough back is not near
pub far : (k c n : ℕ) → c + n ≤ k → near k c n ≡ false
far k c n h = rw (le-ltb k (c + n) h) (and-false (not (eqb c 0)))

-- rules 1 to 3 are kept
pub early-kept : (t : Timing) (s : Timestamps) (k first w : ℕ) → w / 2 ^ 19 ≡ 1 → overdue (deadline t.refi s.refs) k ≡ false
    → early_at t s k first w ≡ 0
early-kept t s k first w e due = rw (lt-leb (2 ^ 20) w (omega arith), e, due)

-- a word with PD and CS high, and no bit above
high-lal : (w : ℕ) → w / 2 ^ 18 ≡ 3 → high 18 w ≡ true
high-lal w e = rw e

driven : (w : ℕ) → w / 2 ^ 18 ≡ 3 → w / 2 ^ 19 ≡ 1
driven w e = omega arith

-- the LAL word of a read or write that keeps every rule from 5 on
pub record Keeping (t : Timing) (s : Timestamps) (k first w : ℕ) : Type 0 where
  pub driven : w / 2 ^ 18 ≡ 3
  pub unreserved : lane_reserved t first w ≡ false
  pub rested : near k (bank_stamp t.four s first) t.rc ≡ false
  pub spaced : too_close (rda first) true t s.read s.write k ≡ false
  pub settled : Settled t s k

lal-kept : (t : Timing) (s : Timestamps) (k first w : ℕ) → Keeping t s k first w → closing_breach t s k first w ≡ 0
lal-kept t s k first w kept =
    let settled = kept.settled in
    sym
    (at-lal t s k first w (high-lal w kept.driven) (sym kept.unreserved) (sym settled.ready)
    (rw (← add-zero t.rc) at (sym kept.rested))
    (sym kept.spaced)
    (rw (← add-zero t.rsc) at (sym settled.after_mode))
    (rw (← add-zero t.refc) at (sym settled.after_refresh)))

-- the place after the LAL word of a read or write of a bank, with these last ones
abbrev pub accessed : ℕ → Kept → ℕ → ℕ → Kept
accessed bank p read write =
    let s = p.stamps in
    record {
      clock = p.clock + 1;
      met = 0xC0000;
      stamps =
          record {
            extended = s.extended;
            regular = s.regular;
            mode = s.mode;
            read = read;
            write = write;
            banks = set s.banks bank p.clock;
            refs = s.refs;
          };
    }

-- the word at a place
module _ (t : Timing) (ws : List ℕ) (p : Kept) {w : ℕ} (inside : p.clock < length ws) (word : w ≡ get_or ws p.clock 0)
    (due : overdue (deadline t.refi p.stamps.refs) p.clock ≡ false) where
  -- the place behind it, with the same timestamps
  abbrev behind : ℕ → Kept
  behind first = record { clock = p.clock + 1; met = first; stamps = p.stamps }

  -- the first word of a pair, where nothing is met
  pub opening-passes : p.met ≡ 0xC0000 → w / 2 ^ 18 ≡ 2 → Passes t ws p (behind w)
  opening-passes free e =
      let pd : w / 2 ^ 19 ≡ 1 = omega arith in
      let early = early-kept t p.stamps p.clock 0xC0000 w pd due in
      record { inside = inside; sound = rw (← word, free, early); leads = rw (← word, free, pd, e) }

  -- a word that goes low
  pub low-passes : p.met ≡ 0xC0000 → w / 2 ^ 18 ≡ 1 → must_stay_high t p.stamps p.clock ≡ false → Passes t ws p (behind 0x40000)
  low-passes free e may =
      let pd : w / 2 ^ 19 ≡ 0 = omega arith in
      record {
        inside = inside;
        sound = rw (← word, free, lt-leb (2 ^ 20) w (omega arith), pd, e, may, due);
        leads = rw (← word, free, pd);
      }

  -- a wake-up word, the first and the second
  pub exit_passes : high 18 p.met ≡ true → {first₁ : ℕ} → first₁ ≡ cond {A = ℕ} (is_powered_down p.met) 0xE0000 0xC0000
      → w / 2 ^ 18 ≡ 3 → Passes t ws p (behind first₁)
  exit_passes no-pair next e =
      let early = early-kept t p.stamps p.clock p.met w (driven w e) due in
      let unselected = and-false (is_powered_down p.met || is_exiting p.met) in
      record {
        inside = inside;
        sound = rw (← word, early, driven w e, e, unselected) (rw no-pair);
        leads = rw (← word, driven w e, e, next) (rw no-pair);
      }

  -- the LAL word of a read or write
  pub access-passes : high 18 p.met ≡ false → {bank : ℕ} → bank ≡ bank_of t.four p.met → Keeping t p.stamps p.clock p.met w
      → {read write : ℕ} → read ≡ cond {A = ℕ} (rda p.met) p.clock p.stamps.read
      → write ≡ cond {A = ℕ} (rda p.met) p.stamps.write p.clock → Passes t ws p (accessed bank p read write)
  access-passes opened of-bank kept read write =
      let early = early-kept t p.stamps p.clock p.met w (driven w kept.driven) due in
      let lal = lal-kept t p.stamps p.clock p.met w kept in
      record {
        inside = inside;
        sound = rw (← word, early, opened, lal);
        leads = rw (of-bank, read, write, ← word, opened, high-lal w kept.driven);
      }

-- a DESL word where nothing is met, and one with PD low in sleep
pub desl_quiet : Quiet 0xC0000 18 3
desl_quiet t s k w cs due = (rw (early-kept t s k 0xC0000 w (driven w cs) due), rw (cs, driven w cs))

pub low_quiet : Quiet 0x40000 19 0
low_quiet t s k w pd due = (rw (lt-leb (2 ^ 20) w (omega arith), pd, due), rw pd)

-- where no word is passed
pub stays : (t : Timing) (ws : List ℕ) (p : Kept) → Passed t ws p p
stays t ws p = none

-- any number of words from clock k on that are quiet
pub quiet_on : {first : ℕ} (shift top : ℕ) → Quiet first shift top → (t : Timing) (s : Timestamps) (ws : List ℕ) (k n : ℕ)
    → ((i : ℕ) → i < n → (k + i < length ws) × (get_or ws (k + i) 0 / 2 ^ shift ≡ top))
    → ((i : ℕ) → i < n → overdue (deadline t.refi s.refs) (k + i) ≡ false)
    → Passed t ws (record { clock = k; met = first; stamps = s }) (record { clock = k + n; met = first; stamps = s })
quiet_on shift top quiet t s ws k zero words due = rw (add-zero k) none
quiet_on shift top quiet t s ws k (suc n) words due =
    let here = words n (omega arith) in
    let sound = quiet t s (k + n) (get_or ws (k + n) 0) here.1 (due n (omega arith)) in
    rw (add-suc k n, ← add-one (k + n))
    (more (quiet_on shift top quiet t s ws k n (λ i h. words i (omega arith)) (λ i h. due i (omega arith)))
    (record { inside = here.0; sound = sound.0; leads = sound.1 }))

pub passed_on : {t : Timing} {ws : List ℕ} {p q r : Kept} → Passed t ws p q → Passed t ws q r → Passed t ws p r
passed_on before none = before
passed_on before (more on h) = more (passed_on before on) h

-- whatever was passed is there
pub passed-inside : {t : Timing} {ws : List ℕ} {p q : Kept} → Passed t ws p q → p.clock < q.clock → q.clock ≤ length ws
passed-inside none h = absurd (omega arith)
passed-inside (more before last) h = rw last.leads (omega (arith, last.inside))

pub passed-onward : {t : Timing} {ws : List ℕ} {p q : Kept} → Passed t ws p q → p.clock ≤ q.clock
passed-onward none = omega arith
passed-onward (more before h) = rw h.leads (omega (arith, passed-onward before))

-- the judgement from a place on
abbrev pub run_from : Timing → List ℕ → Kept → Judgement
run_from t ws p = run t p.stamps p.clock p.met (drop p.clock ws)

module _ (t : Timing) (ws : List ℕ) where
  pub passes-run : {p q : Kept} → Passes t ws p q → run_from t ws p ≡ run_from t ws q
  passes-run {p} h =
      run-passes t p.stamps p.met ws p.clock h.inside refl refl h.sound refl refl
      ∙ ap (run_from t ws) (sym h.leads)

  pub passed-run : {p q : Kept} → Passed t ws p q → run_from t ws p ≡ run_from t ws q
  passed-run none = refl
  passed-run (more before h) = passed-run before ∙ passes-run h
