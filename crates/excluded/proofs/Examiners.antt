-- A check that is not refused gives the judgement, which computes on these traces. A step refuses, or it judges its word.
use Prim.Native.Nat.{ℕ, zero, suc, ◌+◌, ◌/◌, ◌%◌}
use mathlib.Core.Path.{◌≡◌, refl, sym, ◌∙◌, ap}
use mathlib.Core.List.{List, [], ◌∷◌}
use native.Mathlib.Omega.{arith}
use borrow.Author.Tests.{eqb-true, eqb-false}
use lib.ListN.{length, replicate}
use lib.Dec.{eqb, leb, ltb}
use Rattle.basics.specs.Outcome.{Outcome, value, refused}
use Rattle.config.specs.Configuration.{timing_of}
use Rattle.config.specs.declared.Config.{Config}
use Rattle.config.specs.declared.Timing.{Timing}
use Rattle.basics.proofs.Outcomes.{refused-value, require-value, given-value}
use Rattle.words.specs.Words.{words_of}
use Rattle.rules.specs.Verdict.{Judgement, accepted, breach, judge_from, judge, check_of, check_bytes_of}
use Rattle.rules.specs.History.{free}
use Rattle.rules.specs.Breaches.{word_breach}
use Rattle.consistency.specs.Consistency.{clock_fits}
use Rattle.checker.specs.Steps.{Step, verdict_outcome, fresh, refusing, judged, step_by, step_of}
use Rattle.checker.specs.declared.checker.Checker.{Checker}
use Rattle.checker.specs.declared.checker.Breach.{Breach}
use Rattle.basics.specs.declared.refusal.Refusal.{Refusal}
use Rattle.std.specs.Prelude.{Option, Some, None, Result, Ok}
use Rattle.checker.proofs.Refinement.{cond_case}
use Rattle.excluded.specs.Excluded.{NoStep, wrong_mode, wrong_mode_bytes, Examiners}

check_judges : (c : Config) (ws : List ℕ) {j : Judgement} → value j ≡ check_of c ws → (t : Timing) × (value (judge t ws) ≡ value j)
check_judges c ws e =
    let g = given-value (timing_of c) _ (sym e) in
    (g.0, (require-value (leb (length ws) 16777216) _ _ g.2).1)

bytes-judge : (c : Config) (bytes : List ℕ) {j : Judgement} → value j ≡ check_bytes_of c bytes
    → (t : Timing) × (value (judge t (words_of bytes)) ≡ value j)
bytes-judge c bytes e =
    let g = given-value (timing_of c) _ (sym e) in
    let whole = require-value (eqb (length bytes % 4) 0) _ _ g.2 in
    (g.0, (require-value (leb (length bytes / 4) 16777216) _ _ whole.1).1)

breach-accepted : {k n : ℕ} → value (breach k n) ≡ value accepted → ⊥
breach-accepted e = let z : ◌≡◌ {A = ℕ} 0 1 = cc in omega arith

accepted-breach : {k n : ℕ} → value accepted ≡ value (breach k n) → ⊥
accepted-breach e = breach-accepted (sym e)

desls_pass : (t : Timing) (n k : ℕ) → judge_from t (record { clock = k; phase = free; pairs = [] }) (replicate n 0xC0000) ≡ accepted
desls_pass t zero k = refl
desls_pass t (suc n) k = desls_pass t n (k + 1)

-- what holds of a refusal, and of a word that is judged where no breach is recorded, holds of a step
step_case : (P : Step → Type 0) (s : Checker) (w : ℕ) → ((n : ℕ) → P (refusing s n))
    → ((t : Timing) → s.breach.number ≡ 0 → P (judged t s w))
    → P (step_of s w)
step_case P s w refuses judges = go (timing_of s.config)
  where
    go : (o : Outcome Timing) → P (step_by o s w)
    go (refused n) = refuses n
    go (value t) =
        cond_case P (clock_fits s.clock s.met s.stamps) _ _
        (λ _. cond_case P (eqb s.breach.number 0) _ _
        (λ e. cond_case P (ltb s.clock 16777216) _ _ (λ _. judges t (eqb-true s.breach.number 0 e)) (λ _. refuses 24))
        (λ _. refuses 23))
        (λ _. refuses 19)

-- the clock goes one on at a word that passes, and stays at any other; a breach is recorded where none was
pub record Moves (s : Checker) (r : Step) : Type 0 where
  pub passes : r.outcome ≡ value accepted → r.after.clock ≡ s.clock + 1
  pub stays : (r.outcome ≡ value accepted → ⊥) → r.after.clock ≡ s.clock
  pub records : {k n : ℕ} → r.outcome ≡ value (breach k n) → r.after.breach.number ≡ s.breach.number → ⊥

pub step_moves : (s : Checker) (w : ℕ) → Moves s (step_of s w)
step_moves s w =
    step_case (Moves s) s w
    (λ n. record { passes = λ e. absurd (refused-value e); stays = λ _. refl; records = λ e _. refused-value e })
    (λ t free. let n = word_breach t s.stamps s.clock s.met w in
    cond_case (Moves s) (eqb n 0) _ _
    (λ _. record { passes = λ _. refl; stays = λ h. absurd (h refl); records = λ e _. accepted-breach e })
    (λ some. record { passes = λ e. absurd (breach-accepted e); stays = λ _. refl; records = λ _ e. eqb-false n 0 some (e ∙ free) }))

no_step : (s after : Checker) (w : ℕ) (v : Result (Option Breach) Refusal)
    → ((step_of s w).outcome ≡ verdict_outcome v → (step_of s w).after ≡ after → ⊥) → NoStep s w v after
no_step s after w v h e = h (sym (ap (λ r. r.outcome) e)) (sym (ap (λ r. r.after) e))

pub examiners : Examiners
examiners =
    record {
      check-accepts = λ c ws e. breach-accepted (check_judges c (0 ∷ ws) e).1;
      bytes_accept = λ c bytes e. breach-accepted (bytes-judge c (0 ∷ 0 ∷ 0 ∷ 0 ∷ bytes) e).1;
      step-accepts =
          λ s after.
          no_step s after 0x100000 (Ok None)
          (λ e _. step_case (λ r. r.outcome ≡ value accepted → ⊥) s 0x100000 (λ n. refused-value) (λ t _. breach-accepted) e);
      check_breaches =
          λ c n b e.
          let j = check_judges c (replicate n 0xC0000) e in
          accepted-breach (ap value (sym (desls_pass j.0 n 0)) ∙ j.1);
      bytes-breach =
          λ c bytes n b is e.
          let j = bytes-judge c bytes e in
          accepted-breach (sym (ap value (ap (judge j.0) is ∙ desls_pass j.0 n 0)) ∙ j.1);
      step_breaches =
          λ c b after.
          no_step (fresh c) after 0xC0000 (Ok (Some b))
          (λ e _. step_case (λ r. r.outcome ≡ verdict_outcome (Ok (Some b)) → ⊥) (fresh c) 0xC0000 (λ n. refused-value)
          (λ t _. accepted-breach) e);
      step_stays = λ s after w h. no_step s after w (Ok None) (λ o e. h (sym (ap (λ k. k.clock) e) ∙ (step_moves s w).passes o));
      step-stays_in_breach = λ s w b. no_step s s w (Ok (Some b)) (λ o e. (step_moves s w).records o (ap (λ k. k.breach.number) e));
      check-stays = λ c t v e p. breach-accepted {k = 1} {n = 4} (check_judges c wrong_mode (sym e ∙ p)).1;
      bytes_stay = λ c t v e p. breach-accepted {k = 1} {n = 4} (bytes-judge c wrong_mode_bytes (sym e ∙ p)).1;
    }
