-- The theorem of specs/Walk. An advance with a word left is a step on that word, and any other leaves the state; so every state on the way
-- is one that steps make, and what is proved of stepping holds of a walk.
use Prim.Native.Nat.{ℕ, zero, suc, ◌+◌, ◌≤◌, ◌<◌}
use mathlib.Core.Path.{◌≡◌, refl, sym, ◌∙◌, ap}
use mathlib.Core.Bool.{Bool, true, false, cond}
use mathlib.Core.List.{List, [], ◌∷◌, ◌++◌}
use native.Mathlib.Omega.{arith}
use native.Mathlib.Numerals.{add-one}
use borrow.Author.Tests.{ltb-true, ltb-false}
use lib.ListN.{length, get_or, drop, drop_of_length-le}
use lib.Seq.{drop-cons}
use lib.Dec.{eqb, ltb}
use Rattle.basics.specs.Outcome.{Outcome, value, refused}
use Rattle.config.specs.Configuration.{timing_of}
use Rattle.config.specs.declared.Config.{Config}
use Rattle.config.specs.declared.Timing.{Timing}
use Rattle.basics.proofs.Outcomes.{refused-value, same_number}
use Rattle.config.proofs.Accepted.{config-below}
use Rattle.rules.specs.Verdict.{Judgement, accepted, breach}
use Rattle.rules.specs.Breaches.{word_breach}
use Rattle.consistency.specs.Consistency.{clock_fits}
use Rattle.checker.specs.Steps.{Step, fresh, refusing, step_by, step_of}
use Rattle.checker.specs.Refinement.{follow, stepping, after_all}
use Rattle.checker.specs.declared.checker.Checker.{Checker}
use Rattle.checker.proofs.Refinement.{refinement, cond_case}
use Rattle.walks.specs.Walk.{Reached, ended, Move, staying, of_word, examined, at_end, move_of, advanced, unless, walking, stop_of}
use Rattle.walks.specs.Walk.{CheckerCall, step, advance, after_calls, Walk}

-- what holds of an examined word, and where none is left, holds of an advance
pub move_case : (P : Move → Type 0) (s : Checker) (ws : List ℕ) → (s.clock < length ws → P (examined (step_of s (get_or ws s.clock 0))))
    → (length ws ≤ s.clock → P (staying s (at_end s))) → P (move_of s ws)
move_case P s ws word end = go (ltb s.clock (length ws)) refl
  where
    go : (b : Bool) → ltb s.clock (length ws) ≡ b → P (cond b (examined (step_of s (get_or ws s.clock 0))) (staying s (at_end s)))
    go true e = word (ltb-true _ _ e)
    go false e = end (ltb-false _ _ e)

-- what a step leaves alone: the configuration, and the clock but for one word that passes; that is only below clock 16,777,216
pub record StepKeeps (s : Checker) (r : Step) : Type 0 where
  pub config : r.after.config ≡ s.config
  pub clock : r.after.clock ≤ s.clock + 1
  pub passes : r.outcome ≡ value accepted → r.after.clock ≡ s.clock + 1
  pub limit : r.outcome ≡ value accepted → s.clock < 16777216

keeps_refusing : (s : Checker) (n : ℕ) → StepKeeps s (refusing s n)
keeps_refusing s n =
    record { config = refl; clock = omega arith; passes = λ e. absurd (refused-value e); limit = λ e. absurd (refused-value e) }

keeps_by : (o : Outcome Timing) (s : Checker) (w : ℕ) → StepKeeps s (step_by o s w)
keeps_by (refused n) s w = keeps_refusing s n
keeps_by (value t) s w =
    cond_case (StepKeeps s) (clock_fits s.clock s.met s.stamps) _ _
    (λ _. cond_case (StepKeeps s) (eqb s.breach.number 0) _ _
    (λ _. cond_case (StepKeeps s) (ltb s.clock 16777216) _ _
    (λ l. let h = ltb-true s.clock 16777216 l in
    cond_case (StepKeeps s) (eqb (word_breach t s.stamps s.clock s.met w) 0) _ _
    (λ _. record { config = refl; clock = omega arith; passes = λ e. refl; limit = λ e. h })
    (λ _. record { config = refl; clock = omega arith; passes = λ e. cc; limit = λ e. h }))
    (λ _. keeps_refusing s 24))
    (λ _. keeps_refusing s 23))
    (λ _. keeps_refusing s 19)

pub keeps_step : (s : Checker) (w : ℕ) → StepKeeps s (step_of s w)
keeps_step s w = keeps_by (timing_of s.config) s w

-- what every advance keeps, a walk keeps
advanced_keeps : (P : Checker → Type 0) (ws : List ℕ) → ((s : Checker) → P s → P (move_of s ws).after)
    → (n : ℕ) (s : Checker) → P s → P (advanced n s ws)
advanced_keeps P ws one zero s h = h
advanced_keeps P ws one (suc n) s h = advanced_keeps P ws one n (move_of s ws).after (one s h)

-- as that its clock is not past its words
within : (ws : List ℕ) (s : Checker) → s.clock ≤ length ws → (move_of s ws).after.clock ≤ length ws
within ws s h =
    move_case (λ r. r.after.clock ≤ length ws) s ws
    (λ l. let k = (keeps_step s (get_or ws s.clock 0)).clock in omega arith)
    (λ _. h)

-- an examined word is refused as the step refuses it, and never says end
word-refused : (o : Outcome Judgement) {n : ℕ} → of_word o ≡ refused n → o ≡ refused n
word-refused (value accepted) e = cc
word-refused (value (breach k n)) e = cc
word-refused (refused n) e = cc

word-ends : (o : Outcome Judgement) → of_word o ≡ value ended → ⊥
word-ends (value accepted) e = let z : ◌≡◌ {A = ℕ} 0 1 = cc in omega arith
word-ends (value (breach k n)) e = let z : ◌≡◌ {A = ℕ} 0 1 = cc in omega arith
word-ends (refused n) e = refused-value e

-- a turn of a walk is one of stepping, if the turns after a word that passed are
abbrev stopped : Outcome Judgement → Outcome Reached
stopped (value j) = value (stop_of j)
stopped (refused n) = refused n

word-turns : (o : Outcome Judgement) (x : Outcome Reached) (y : Outcome Judgement) → (o ≡ value accepted → x ≡ stopped y)
    → unless (of_word o) x ≡ stopped (follow o y)
word-turns (value accepted) x y h = h refl
word-turns (value (breach k n)) x y h = refl
word-turns (refused n) x y h = refl

after-one-more : (s : Checker) (us : List ℕ) (w : ℕ) → after_all s (us ++ (w ∷ [])) ≡ (step_of (after_all s us) w).after
after-one-more s [] w = refl
after-one-more s (u ∷ us) w = after-one-more (step_of s u).after us w

module _ (c : Config) where
  -- a state that steps make from a fresh one
  record Made (s : Checker) : Type 0 where
    words : List ℕ
    is : s ≡ after_all (fresh c) words
    config : s.config ≡ c

  made_fresh : Made (fresh c)
  made_fresh = record { words = []; is = refl; config = refl }

  made_step : (s : Checker) (w : ℕ) → Made s → Made (step_of s w).after
  made_step s w m =
      record {
        words = m.words ++ (w ∷ []);
        is = ap (λ x. (step_of x w).after) m.is ∙ sym (after-one-more (fresh c) m.words w);
        config = (keeps_step s w).config ∙ m.config;
      }

  made_move : (ws : List ℕ) (s : Checker) → Made s → Made (move_of s ws).after
  made_move ws s m = move_case (λ r. Made r.after) s ws (λ _. made_step s (get_or ws s.clock 0) m) (λ _. m)

  made_calls : (xs : List CheckerCall) (s : Checker) → Made s → Made (after_calls s xs)
  made_calls [] s m = m
  made_calls (step w ∷ xs) s m = made_calls xs (step_of s w).after (made_step s w m)
  made_calls (advance ws ∷ xs) s m = made_calls xs (move_of s ws).after (made_move ws s m)

  -- no such state refuses 19, so with no word left it says end
  step-19 : (s : Checker) (w : ℕ) → Made s → (step_of s w).outcome ≡ refused 19 → ⊥
  step-19 s w m e = refinement.never-19 c m.words w (ap (λ x. (step_of x w).outcome) (sym m.is) ∙ e)

  ends : (t : Timing) (s : Checker) → timing_of c ≡ value t → Made s → at_end s ≡ value ended
  ends t s e m = go (clock_fits s.clock s.met s.stamps) refl
    where
      go : (b : Bool) → clock_fits s.clock s.met s.stamps ≡ b → at_end s ≡ value ended
      go true f = rw (m.config, e, f)
      go false f = absurd (step-19 s 0 m (rw (m.config, e, f)))

  move-19 : (s : Checker) (ws : List ℕ) → Made s → (move_of s ws).outcome ≡ refused 19 → ⊥
  move-19 s ws m =
      move_case (λ r. r.outcome ≡ refused 19 → ⊥) s ws
      (λ _ e. step-19 s (get_or ws s.clock 0) m (word-refused _ e))
      (λ _. go (timing_of c) refl)
    where
      go : (o : Outcome Timing) → timing_of c ≡ o → at_end s ≡ refused 19 → ⊥
      go (value t) q e = refused-value (sym e ∙ ends t s q m)
      go (refused n) q e = config-below c 19 (omega arith) (q ∙ ap refused (same_number (rw (m.config, q) at e)))

  -- advancing from a clock on is stepping over the words from there
  module _ (t : Timing) (e : timing_of c ≡ value t) (ws : List ℕ) where
    walking-is : (n : ℕ) (s : Checker) → Made s → s.clock ≤ length ws → length ws < n + s.clock
        → walking n s ws ≡ stopped (stepping s (drop s.clock ws))
    walking-is zero s m h l = absurd (omega arith)
    walking-is (suc n) s m h l =
        move_case (λ r. unless r.outcome (walking n r.after ws) ≡ stopped (stepping s (drop s.clock ws))) s ws
        (λ k. rw (drop-cons ws s.clock 0 k)
        (word-turns (step_of s w).outcome (walking n s' ws) (stepping s' (drop (suc s.clock) ws))
        (λ q. let p : s'.clock ≡ suc s.clock = (keeps_step s w).passes q ∙ add-one s.clock in
        rw (← p) (walking-is n s' (made_step s w m) (omega arith) (omega arith)))))
        (λ k. rw (ends t s e m, drop_of_length-le ws k))
      where
        w : ℕ
        w = get_or ws s.clock 0

        s' : Checker
        s' = (step_of s w).after

pub walk : Walk
walk =
    record {
      verdict =
          λ c t ws n e h l. walking-is c t e ws n (fresh c) (made_fresh c) (omega arith) (omega arith)
          ∙ ap stopped (refinement.verdict c t ws e h);
      end-there =
          λ c t ws n e h.
          let s = advanced n (fresh c) ws in
          move_case (λ r. r.outcome ≡ value ended) s ws
          (λ l. absurd (omega arith))
          (λ _. ends c t s e (advanced_keeps (Made c) ws (made_move c ws) n (fresh c) (made_fresh c)));
      only-there =
          λ c ws n.
          let s = advanced n (fresh c) ws in
          let h = advanced_keeps (λ s. s.clock ≤ length ws) ws (within ws) n (fresh c) (omega arith) in
          move_case (λ r. r.outcome ≡ value ended → s.clock ≡ length ws) s ws
          (λ _ e. absurd (word-ends (step_of s (get_or ws s.clock 0)).outcome e))
          (λ l _. omega arith);
      never-19 = λ c xs ws. move-19 c (after_calls (fresh c) xs) ws (made_calls c xs (fresh c) (made_fresh c));
      step-never-19 = λ c xs w. step-19 c (after_calls (fresh c) xs) w (made_calls c xs (fresh c) (made_fresh c));
    }
