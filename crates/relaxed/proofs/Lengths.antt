-- A trace that is accepted by steps, or that a walk comes to the end of, has at most 16,777,216 words: a word passes only below that clock,
-- and moves the clock one on.
use Prim.Native.Nat.{ℕ, zero, suc, ◌+◌, ◌≤◌, ◌<◌}
use mathlib.Core.Path.{◌≡◌, refl}
use mathlib.Core.List.{List, [], ◌∷◌}
use native.Mathlib.Omega.{arith}
use lib.ListN.{length, get_or}
use Rattle.basics.specs.Outcome.{Outcome, value, refused}
use Rattle.basics.proofs.Outcomes.{refused-value}
use Rattle.rules.specs.Verdict.{Judgement, accepted, breach}
use Rattle.checker.specs.Steps.{step_of}
use Rattle.checker.specs.Refinement.{follow, stepping}
use Rattle.checker.specs.declared.checker.Checker.{Checker}
use Rattle.walks.specs.Walk.{Reached, ended, of_word, unless, walking, stop_of}
use Rattle.walks.proofs.Walk.{keeps_step, move_case}

-- two answers that are one
distinct : {P : Type 0} → ◌≡◌ {A = ℕ} 0 1 → P
distinct e = absurd (omega arith)

pub stop-accepted : (j : Judgement) → stop_of j ≡ ended → j ≡ accepted
stop-accepted accepted e = refl
stop-accepted (breach k n) e = distinct (cc)

followed : (o rest : Outcome Judgement) → follow o rest ≡ value accepted → (o ≡ value accepted) × (rest ≡ value accepted)
followed (value accepted) rest e = (refl, e)
followed (value (breach k n)) rest e = distinct (cc)
followed (refused n) rest e = absurd (refused-value e)

pub step-limit : (s : Checker) (words : List ℕ) → s.clock ≤ 16777216 → stepping s words ≡ value accepted
    → s.clock + length words ≤ 16777216
step-limit s [] h e = omega arith
step-limit s (w ∷ ws) h e =
    let f = followed (step_of s w).outcome (stepping (step_of s w).after ws) e in
    let k = (keeps_step s w).passes f.0 in
    let l = (keeps_step s w).limit f.0 in
    let ih = step-limit (step_of s w).after ws (omega arith) f.1 in
    omega arith

went_on : (o : Outcome Judgement) (rest : Outcome Reached) → unless (of_word o) rest ≡ value ended
    → (o ≡ value accepted) × (rest ≡ value ended)
went_on (value accepted) rest e = (refl, e)
went_on (value (breach k n)) rest e = distinct (cc)
went_on (refused n) rest e = absurd (refused-value e)

pub walk-limit : (words : List ℕ) (n : ℕ) (s : Checker) → s.clock ≤ length words → s.clock ≤ 16777216 → walking n s words ≡ value ended
    → (length words ≤ 16777216) × (length words < n + s.clock)
walk-limit words zero s h m = λ e. distinct (cc)
walk-limit words (suc n) s h m =
    move_case
    (λ r. unless r.outcome (walking n r.after words) ≡ value ended → (length words ≤ 16777216) × (length words < suc n + s.clock))
    s words
    (λ l e. let w = get_or words s.clock 0 in
    let f = went_on (step_of s w).outcome (walking n (step_of s w).after words) e in
    let k = (keeps_step s w).passes f.0 in
    let b = (keeps_step s w).limit f.0 in
    let (i, j) = walk-limit words n (step_of s w).after (omega arith) (omega arith) f.1 in
    (i, omega arith))
    (λ l e. (omega arith, omega arith))
