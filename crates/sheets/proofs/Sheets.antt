-- Each call's definition asks the sheet first, and goes on only with its figures. Of the tests in a row, the one that fails is read off the
-- number.
use Prim.Native.Nat.{ℕ, ◌<◌}
use mathlib.Core.Path.{◌≡◌, refl, sym, ◌∙◌, ap}
use mathlib.Core.Bool.{Bool, true, false, false≢true}
use mathlib.Core.List.{List}
use native.Mathlib.Omega.{arith}
use borrow.Author.Tests.{eq-eqb, ne_eqb, lt-ltb, eqb-true, ltb-true, not-false}
use lib.ListN.{length}
use lib.Dec.{eqb, ltb}
use Rattle.basics.specs.Outcome.{Outcome, value, refused, require, given}
use Rattle.basics.proofs.Outcomes.{Not, value_not, require-not, require-behind, require-fails}
use Rattle.config.specs.Configuration.{part_fits, wiring_fits, period_fits, counts_fit, refresh_fits, derived, timing_of}
use Rattle.config.specs.declared.Config.{Config}
use Rattle.config.specs.declared.Timing.{Timing}
use Rattle.config.proofs.Bounds.{both}
use Rattle.config.proofs.Accepted.{accepted}
use Rattle.checker.proofs.Refinement.{cond_case}
use Rattle.fcram.specs.Number.{number_of}
use Rattle.counts.specs.Counts.{counting}
use Rattle.rules.specs.Verdict.{check_bytes_of}
use Rattle.checker.specs.Steps.{refusing, step_by, step_of}
use Rattle.checker.specs.declared.checker.Checker.{Checker}
use Rattle.walks.specs.Walk.{staying, examined}
use Rattle.controller.specs.Steps.{offer_by, tick_by}
use Rattle.sheets.specs.Sheets.{ShortRefresh, OtherWiring, RefusedBy, Sheets}

-- a call behind a refused one is refused by the same number
given-refused : {A B : Type 0} {n : ℕ} (x : Outcome A) (f : A → Outcome B) → x ≡ refused n → given x f ≡ refused n
given-refused x f e = ap (λ o. given o f) e

everywhere : (c : Config) (n : ℕ) → timing_of c ≡ refused n → RefusedBy n c
everywhere c n e =
    let bytes : (bs : List ℕ) → check_bytes_of c bs ≡ refused n = λ bs. given-refused (timing_of c) _ e in
    let stepped : (s : Checker) (w : ℕ) → s.config ≡ c → step_of s w ≡ refusing s n =
    λ s w h. ap (λ o. step_by o s w) (ap timing_of h ∙ e) in
    record {
      read = λ p. given-refused (timing_of c) _ e;
      write = λ o. given-refused (timing_of c) _ e;
      check = λ words. given-refused (timing_of c) _ e;
      check-bytes = bytes;
      site = λ bs. ap number_of (bytes bs);
      within = λ b words. given-refused (timing_of c) _ e;
      within-second = λ a t words h. rw h (given-refused (timing_of c) _ e);
      duration = λ count. given-refused (timing_of c) _ e;
      count = λ words. ap counting (given-refused (timing_of c) _ e);
      step = stepped;
      advance =
          λ s words h.
          cond_case (λ m. m ≡ staying s (refused n)) (ltb s.clock (length words)) _ _
          (λ _. ap examined (stepped s _ h))
          (λ _. ap (staying s) (given-refused (timing_of s.config) _ (ap timing_of h ∙ e)));
      offer = λ s q h. ap (λ o. offer_by o s q) (ap timing_of h ∙ e);
      tick = λ s h. ap (λ o. tick_by o s) (ap timing_of h ∙ e);
    }

-- a refusal by n behind a test that holds, and of one that fails
passes : {A : Type 0} {b : Bool} (m : ℕ) {n : ℕ} {x : Outcome A} → b ≡ true → x ≡ refused n → require b m x ≡ refused n
passes m h e = rw h e

refuses : {A : Type 0} {b : Bool} (n : ℕ) (x : Outcome A) → b ≡ false → require b n x ≡ refused n
refuses n x h = rw h

-- the test that fails
below-18 : (c : Config) → c.cl ≡ 4 → c.refc.0 < 18 → refresh_fits c ≡ false
below-18 c is-4 short = rw (eq-eqb c.cl 4 is-4, lt-ltb c.refc.0 18 short)

never-accepted : (c : Config) (t : Timing) → c.cl ≡ 4 → c.refc.0 < 18 → timing_of c ≡ value t → ⊥
never-accepted c t is-4 short e = false≢true (sym (below-18 c is-4 short) ∙ (accepted c t e).0.refresh)

short : (c : Config) → ShortRefresh c → timing_of c ≡ refused 33
short c s =
    passes 20 s.part
    (passes 34 s.wiring
    (passes 21 s.period
    (passes 22 s.counts (refuses 33 (value (derived c)) (below-18 c s.cl s.refc)))))

only-short : (c : Config) → timing_of c ≡ refused 33 → ShortRefresh c
only-short c e =
    let part = require-behind (part_fits c) _ (λ q. omega arith) e in
    let wiring = require-behind (wiring_fits c) _ (λ q. omega arith) part.1 in
    let period = require-behind (period_fits c) _ (λ q. omega arith) wiring.1 in
    let counts = require-behind (counts_fit c) _ (λ q. omega arith) period.1 in
    let refresh = require-fails (refresh_fits c) _ (value_not 33 (derived c)) counts.1 in
    let k = both (eqb c.cl 4) (ltb c.refc.0 18) (not-false _ refresh) in
    record {
      part = part.0;
      wiring = wiring.0;
      period = period.0;
      counts = counts.0;
      cl = eqb-true c.cl 4 k.0;
      refc = ltb-true c.refc.0 18 k.1;
    }

neither : (c : Config) → (c.wiring ≡ 4 → ⊥) → (c.wiring ≡ 8 → ⊥) → wiring_fits c ≡ false
neither c four eight = rw (ne_eqb c.wiring 8 eight, ne_eqb c.wiring 4 four)

never_other_wiring : (c : Config) (t : Timing) → timing_of c ≡ value t → (c.wiring ≡ 4 → ⊥) → (c.wiring ≡ 8 → ⊥) → ⊥
never_other_wiring c t e four eight = false≢true (sym (neither c four eight) ∙ (accepted c t e).0.wiring)

other_wiring : (c : Config) → OtherWiring c → timing_of c ≡ refused 34
other_wiring c u = passes 20 u.part (refuses 34 _ (neither c u.four u.eight))

only_other_wiring : (c : Config) → timing_of c ≡ refused 34 → OtherWiring c
only_other_wiring c e =
    let part = require-behind (part_fits c) _ (λ q. omega arith) e in
    let later : Not 34 _ =
    require-not (period_fits c) 21 34 _ (λ q. omega arith)
    (require-not (counts_fit c) 22 34 _ (λ q. omega arith)
    (require-not (refresh_fits c) 33 34 _ (λ q. omega arith) (value_not 34 (derived c)))) in
    let wiring = require-fails (wiring_fits c) _ later part.1 in
    record {
      part = part.0;
      four = λ h. false≢true (sym wiring ∙ rw h);
      eight = λ h. false≢true (sym wiring ∙ rw h);
    }

pub sheets : Sheets
sheets =
    record {
      never-accepted = never-accepted;
      short = short;
      only-short = only-short;
      never_other_wiring = never_other_wiring;
      other_wiring = other_wiring;
      only_other_wiring = only_other_wiring;
      institute-is = refl;
      ten_have_eight = λ grade cl bl organisation period rbd rwd wrd rsc refc. refl;
      everywhere = everywhere;
    }
