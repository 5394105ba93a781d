-- An advance with a word left is a step on that word, and any other leaves the state.
use Prim.Native.Nat.{ℕ, ◌≤◌, ◌<◌}
use mathlib.Core.Path.{◌≡◌, refl, sym, ◌∙◌, ap}
use mathlib.Core.List.{List}
use native.Mathlib.Omega.{arith}
use borrow.Author.Tests.{ltb-true, ltb-false}
use lib.ListN.{length, get_or}
use lib.Dec.{ltb}
use Rattle.basics.specs.Outcome.{Outcome, value, refused}
use Rattle.config.specs.Configuration.{timing_of}
use Rattle.basics.proofs.Outcomes.{refused-value, require-value, given-value}
use Rattle.rules.specs.Verdict.{Judgement, accepted, breach}
use Rattle.consistency.specs.Consistency.{clock_fits}
use Rattle.checker.specs.Steps.{step_of}
use Rattle.checker.specs.declared.checker.Checker.{Checker}
use Rattle.walks.specs.Walk.{passed, ended, progress_outcome, of_word, at_end}
use Rattle.walks.specs.declared.Progress.{Progress}
use Rattle.basics.specs.declared.refusal.Refusal.{Refusal}
use Rattle.std.specs.Prelude.{Result, Ok}
use Rattle.excluded.specs.Excluded.{NoMove, Walks}
use Rattle.excluded.proofs.Answers.{same-progress}
use Rattle.checker.proofs.Refinement.{cond_case}
use Rattle.excluded.proofs.Examiners.{step_moves}

-- an examined word passes as the step has it, and never says end
word-passed : (o : Outcome Judgement) → of_word o ≡ value passed → o ≡ value accepted
word-passed (value accepted) e = refl
word-passed (value (breach k n)) e = cc
word-passed (refused n) e = cc

word-ends : (o : Outcome Judgement) → of_word o ≡ value ended → ⊥
word-ends (value accepted) e = let z : ◌≡◌ {A = ℕ} 0 1 = cc in omega arith
word-ends (value (breach k n)) e = let z : ◌≡◌ {A = ℕ} 0 1 = cc in omega arith
word-ends (refused n) e = refused-value e

end-passed : (s : Checker) → at_end s ≡ value passed → ⊥
end-passed s e =
    let g = given-value (timing_of s.config) _ e in
    let q = (require-value (clock_fits s.clock s.met s.stamps) _ _ g.2).1 in
    let z : ◌≡◌ {A = ℕ} 0 1 = cc q in
    omega arith

-- no such answer at a word, by the step on it, and none where no word is left
no_move : (s after : Checker) (ws : List ℕ) (p : Result Progress Refusal)
    → (s.clock < length ws → let r = step_of s (get_or ws s.clock 0) in
    of_word r.outcome ≡ progress_outcome p → after.clock ≡ r.after.clock → ⊥)
    → (length ws ≤ s.clock → at_end s ≡ progress_outcome p → after.clock ≡ s.clock → ⊥) → NoMove s ws p after
no_move s after ws p word end =
    cond_case (λ m. record { outcome = progress_outcome p; after = after } ≡ m → ⊥) (ltb s.clock (length ws)) _ _
    (λ l e. word (ltb-true _ _ l) (sym (ap (λ m. m.outcome) e)) (ap (λ m. m.after.clock) e))
    (λ l e. end (ltb-false _ _ l) (sym (ap (λ m. m.outcome) e)) (ap (λ m. m.after.clock) e))

pub walks : Walks
walks =
    record {
      end-early =
          λ s after ws h.
          no_move s after ws (Ok Progress.End)
          (λ _ e _. word-ends (step_of s (get_or ws s.clock 0)).outcome e)
          (λ l _ _. omega arith);
      end_unsaid =
          λ s after ws t p h is fits other.
          no_move s after ws p
          (λ l _ _. omega arith)
          (λ _ e _. other (same-progress p (Ok Progress.End) (sym e ∙ rw (is, fits))));
      passed-place =
          λ s after ws h.
          no_move s after ws (Ok Progress.Passed)
          (λ _ o e. let w = get_or ws s.clock 0 in h (e ∙ (step_moves s w).passes (word-passed (step_of s w).outcome o)))
          (λ _ o _. end-passed s o);
      other_place =
          λ s after ws p other h.
          no_move s after ws p
          (λ _ o e. let w = get_or ws s.clock 0 in
          h (e ∙ (step_moves s w).stays (λ q. other (same-progress p (Ok Progress.Passed) (sym o ∙ ap of_word q)))))
          (λ _ _ e. h e);
    }
