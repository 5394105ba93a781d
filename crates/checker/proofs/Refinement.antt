-- The theorem of specs/Refinement: every state on the way keeps the summary of a past that words have led to.
use Prim.Native.Nat.{ℕ, zero, suc, ◌+◌, ◌≤◌, ◌<◌}
use mathlib.Core.Path.{◌≡◌, refl, sym, ◌∙◌, ap}
use mathlib.Core.Bool.{Bool, true, false, cond, true≢false}
use mathlib.Core.List.{List, [], ◌∷◌}
use native.Mathlib.Omega.{arith}
use borrow.Author.Tests.{lt-ltb, eq-eqb, ne_eqb, ltb-true}
use lib.ListN.{length}
use lib.Dec.{eqb, ltb}
use Rattle.basics.specs.Outcome.{Outcome, value, refused}
use Rattle.config.specs.Configuration.{timing_of}
use Rattle.config.specs.declared.Config.{Config}
use Rattle.config.specs.declared.Timing.{Timing}
use Rattle.basics.proofs.Outcomes.{refused-value, same_number, refused-by}
use Rattle.config.proofs.Accepted.{wired, config-below}
use Rattle.rules.specs.History.{ClosedPair, idle, Phase, between, next_phase, next_pairs}
use Rattle.rules.specs.Verdict.{accepted, breach, judge}
use Rattle.stamps.specs.Stamps.{next_stamps, next_met}
use Rattle.rules.specs.Breaches.{word_breach}
use Rattle.consistency.specs.Consistency.{clock_fits}
use Rattle.checker.specs.Steps.{Step, fresh, step_by, step_of}
use Rattle.checker.specs.Refinement.{stepping, after_all, Refinement}
use Rattle.stamps.specs.declared.Timestamps.{Timestamps}
use Rattle.checker.specs.declared.checker.Checker.{Checker}
use Rattle.rules.proofs.Summary.{summary}
use Rattle.rules.specs.Kept.{met_of}
use Rattle.rules.proofs.Words.{Regular, regular-extend, stamps-is, met-is, run, run_is}
use Rattle.checker.proofs.Before.{fits}

-- a state with no breach recorded
abbrev at : Config → Timestamps → ℕ → ℕ → Checker
at c s k first = record { config = c; clock = k; met = first; stamps = s; breach = record { clock = 0; number = 0 } }

module _ (c : Config) (t : Timing) (e : timing_of c ≡ value t) where
  module _ (s : Timestamps) (k first w : ℕ) (f : clock_fits k first s ≡ true) (h : k < 16777216) where
    step-passes : word_breach t s k first w ≡ 0
        → step_of
        (at c s k first) w ≡ record {
          outcome = value accepted;
          after = at c (next_stamps t.four s k first w) (k + 1) (next_met first w);
        }
    step-passes z = rw (e, f, lt-ltb k 16777216 h, eq-eqb (word_breach t s k first w) 0 z)

    step_breaches : (n : ℕ) → word_breach t s k first w ≡ suc n → (step_of (at c s k first) w).outcome ≡ value (breach k (suc n))
    step_breaches n z = rw (e, f, lt-ltb k 16777216 h, z, ne_eqb (suc n) 0 (λ q. omega arith))

  stepping-is : (o : Phase) (k : ℕ) (ps : List ClosedPair) (ws : List ℕ) → Regular o k ps → k + length ws ≤ 16777216
      → stepping (at c (summary t.four ps) k (met_of o)) ws ≡ value (run t (summary t.four ps) k (met_of o) ws)
  stepping-is o k ps [] r h = refl
  stepping-is o k ps (w ∷ ws) r h =
      let ih = stepping-is (next_phase o w) (k + 1) (next_pairs o k w ps) ws (regular-extend o k ps w r) (omega arith) in
      go (word_breach t (summary t.four ps) k (met_of o) w) refl (rw (stamps-is t.four o k ps w r, met-is o k ps w r) at ih)
    where
      f : clock_fits k (met_of o) (summary t.four ps) ≡ true
      f = fits t.four o k ps r (omega arith)

      go : (n : ℕ) → word_breach t (summary t.four ps) k (met_of o) w ≡ n
          → stepping (at c (next_stamps t.four (summary t.four ps) k (met_of o) w) (k + 1) (next_met (met_of o) w)) ws
          ≡ value (run t (next_stamps t.four (summary t.four ps) k (met_of o) w) (k + 1) (next_met (met_of o) w) ws)
          → stepping (at c (summary t.four ps) k (met_of o)) (w ∷ ws) ≡ value (run t (summary t.four ps) k (met_of o) (w ∷ ws))
      go zero z ih = rw (step-passes (summary t.four ps) k (met_of o) w f (omega arith) z, z) ih
      go (suc n) z ih = rw (step_breaches (summary t.four ps) k (met_of o) w f (omega arith) n z, z)

verdict : (c : Config) (t : Timing) (ws : List ℕ) → timing_of c ≡ value t → length ws ≤ 16777216
    → stepping (fresh c) ws ≡ value (judge t ws)
verdict c t ws e h = stepping-is c t e (between idle) 0 [] ws (omega arith, tt) (omega arith) ∙ ap value (sym (run_is t ws))

-- a clock, first word and timestamps that are those of such a past
record OfPast (four : Bool) (k f : ℕ) (s : Timestamps) : Type 0 where
  phase : Phase
  pairs : List ClosedPair
  regular : Regular phase k pairs
  limit : k ≤ 16777216
  met : f ≡ met_of phase
  stamps : s ≡ summary four pairs

past_next : (four : Bool) (k f : ℕ) (s : Timestamps) (w : ℕ) → OfPast four k f s → k < 16777216
    → OfPast four (k + 1) (next_met f w) (next_stamps four s k f w)
past_next four k f s w h l =
    record {
      phase = next_phase h.phase w;
      pairs = next_pairs h.phase k w h.pairs;
      regular = regular-extend h.phase k h.pairs w h.regular;
      limit = omega arith;
      met = rw h.met (sym (met-is h.phase k h.pairs w h.regular));
      stamps = rw (h.met, h.stamps) (sym (stamps-is four h.phase k h.pairs w h.regular));
    }

past_fits : (four : Bool) (k f : ℕ) (s : Timestamps) → OfPast four k f s → clock_fits k f s ≡ true
past_fits four k f s h = rw (h.met, h.stamps) (fits four h.phase k h.pairs h.regular h.limit)

-- of a state's own wiring
abbrev four : Checker → Bool
four c = eqb c.config.wiring 4

abbrev HasPast : Checker → Type 0
HasPast c = OfPast (four c) c.clock c.met c.stamps

pub cond_case : {A : Type 0} (P : A → Type 0) (b : Bool) (x y : A) → (b ≡ true → P x) → (b ≡ false → P y) → P (cond b x y)
cond_case P true x y f g = f refl
cond_case P false x y f g = g refl

-- every step keeps it, whatever it answers
past-step : (o : Outcome Timing) (c : Checker) (w : ℕ) → timing_of c.config ≡ o → HasPast c → HasPast (step_by o c w).after
past-step (refused n) c w e h = h
past-step (value t) c w e h =
    cond_case P (clock_fits c.clock c.met c.stamps) _ _
    (λ _. cond_case P (eqb c.breach.number 0) _ _
    (λ _. cond_case P (ltb c.clock 16777216) _ _
    (λ l. cond_case P (eqb (word_breach t c.stamps c.clock c.met w) 0) _ _
    (λ _. rw (wired c.config t e) (past_next (four c) c.clock c.met c.stamps w h (ltb-true c.clock 16777216 l)))
    (λ _. h))
    (λ _. h))
    (λ _. h))
    (λ _. h)
  where
    P : Step → Type 0
    P r = HasPast r.after

past_all : (c : Checker) (ws : List ℕ) → HasPast c → HasPast (after_all c ws)
past_all c [] h = h
past_all c (w ∷ ws) h = past_all (step_of c w).after ws (past-step (timing_of c.config) c w refl h)

not-19 : (o : Outcome Timing) (c : Checker) (w : ℕ) → (o ≡ refused 19 → ⊥) → HasPast c → (step_by o c w).outcome ≡ refused 19 → ⊥
not-19 (refused m) c w n h = λ e. n (ap refused (same_number e))
not-19 (value t) c w n h =
    cond_case P (clock_fits c.clock c.met c.stamps) _ _
    (λ _. cond_case P (eqb c.breach.number 0) _ _
    (λ _. cond_case P (ltb c.clock 16777216) _ _
    (λ l. cond_case P (eqb (word_breach t c.stamps c.clock c.met w) 0) _ _ (λ _ e. refused-value (sym e))
    (λ _ e. refused-value (sym e)))
    (λ _. refused-by (λ q. omega arith)))
    (λ _. refused-by (λ q. omega arith)))
    (λ z. absurd (true≢false (sym (past_fits (four c) c.clock c.met c.stamps h) ∙ z)))
  where
    P : Step → Type 0
    P r = r.outcome ≡ refused 19 → ⊥

never-19 : (c : Config) (ws : List ℕ) (w : ℕ) → (step_of (after_all (fresh c) ws) w).outcome ≡ refused 19 → ⊥
never-19 c ws w =
    let s = after_all (fresh c) ws in
    let a = s.config in
    not-19 (timing_of a) s w (config-below a 19 (omega arith))
    (past_all (fresh c) ws
    (record { phase = between idle; pairs = []; regular = (omega arith, tt); limit = omega arith; met = refl; stamps = refl }))

pub refinement : Refinement
refinement = record { verdict = verdict; never-19 = never-19 }
