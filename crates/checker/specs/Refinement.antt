-- Stepping word by word from a fresh checker, and the published verdict (RULES 5.4).
use Rattle.std.specs.Prelude.{ℕ, ◌≤◌, ◌≡◌, List, [], ◌∷◌, length}
use Rattle.basics.specs.Numbers.{limit}
use Rattle.basics.specs.Outcome.{Outcome, value, refused}
use Rattle.config.specs.Configuration.{timing_of}
use Rattle.config.specs.declared.Config.{Config}
use Rattle.config.specs.declared.Timing.{Timing}
use Rattle.rules.specs.Verdict.{Judgement, accepted, breach, judge}
use Rattle.checker.specs.Steps.{fresh, step_of}
use Rattle.checker.specs.declared.checker.Checker.{Checker}

-- the first answer that is no pass, or accepted
abbrev pub follow : Outcome Judgement → Outcome Judgement → Outcome Judgement
follow (value accepted) rest = rest
follow (value (breach k n)) rest = value (breach k n)
follow (refused n) rest = refused n

-- the answer of stepping through the words
abbrev pub stepping : Checker → List ℕ → Outcome Judgement
stepping s [] = value accepted
stepping s (w ∷ ws) = let rest = stepping (step_of s w).after ws in follow (step_of s w).outcome rest

-- the state after the words, whatever each step answered
abbrev pub after_all : Checker → List ℕ → Checker
after_all s [] = s
after_all s (w ∷ ws) = after_all (step_of s w).after ws

-- the theorem that joins the checker's states to the published rules
pub record Refinement : Type 0 where
  -- for every accepted configuration and every trace that the whole check takes, stepping gives the published verdict
  pub verdict : (c : Config) (t : Timing) (ws : List ℕ) → timing_of c ≡ value t → length ws ≤ limit
      → stepping (fresh c) ws ≡ value (judge t ws)
  -- whatever words a fresh checker has stepped through, on any sheet, the next step is not refused by 19 (RULES 6.19)
  pub never-19 : (c : Config) (ws : List ℕ) (w : ℕ) → (step_of (after_all (fresh c) ws) w).outcome ≡ refused 19 → ⊥
