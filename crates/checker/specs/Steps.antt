-- What a step of the checker does, for every state there is (RULES 5.4).
use Rattle.std.specs.Prelude.{ℕ, ◌+◌, Bool, cond, eqb, ltb, Option, None, Some, Result}
use Rattle.command.specs.Pairs.{desl}
use Rattle.basics.specs.Outcome.{Outcome, value, refused}
use Rattle.basics.specs.Numbers.{limit}
use Rattle.basics.specs.Answers.{outcome_by}
use Rattle.basics.specs.declared.refusal.Refusal.{Refusal}
use Rattle.config.specs.Configuration.{timing_of}
use Rattle.config.specs.declared.Config.{Config}
use Rattle.config.specs.declared.Timing.{Timing}
use Rattle.rules.specs.Verdict.{Judgement, accepted, breach}
use Rattle.stamps.specs.Stamps.{next_stamps, next_met, never}
use Rattle.rules.specs.Breaches.{word_breach}
use Rattle.consistency.specs.Consistency.{clock_fits}
use Rattle.checker.specs.declared.checker.Breach.{Breach}
use Rattle.checker.specs.declared.checker.Checker.{Checker}
use Rattle.checker.specs.declared.checker.Stepped.{Stepped}

-- what a word or a trace that is not refused comes to in the paper's terms: accepted with no breach; of a word that says that it passed
abbrev pub judgement_of : Option Breach → Judgement
judgement_of None = accepted
judgement_of (Some b) = breach b.clock b.number

-- what a verdict is in the paper's terms
abbrev pub verdict_outcome : Result (Option Breach) Refusal → Outcome Judgement
verdict_outcome r = outcome_by judgement_of r

-- a step's answer, and the state that it leaves
pub record Step : Type 0 where
  pub outcome : Outcome Judgement
  pub after : Checker

-- what `Checker::step` returns, as these two
abbrev pub stepped : Stepped → Step
stepped r = record { outcome = verdict_outcome r.verdict; after = r.checker }

-- a fresh checker: clock 0, the next word meets nothing, no event and no breach
abbrev pub fresh : Config → Checker
fresh c = record { config = c; clock = 0; met = desl; stamps = never; breach = record { clock = 0; number = 0 } }

-- the word is judged (RULES 5.4): a breach is recorded, and the clock stays; otherwise the state goes on
abbrev pub judged : Timing → Checker → ℕ → Step
judged t s w =
    let n = word_breach t s.stamps s.clock s.met w in
    cond (eqb n 0)
    (record {
      outcome = value accepted;
      after =
          record {
            config = s.config;
            clock = s.clock + 1;
            met = next_met s.met w;
            stamps = next_stamps t.four s.stamps s.clock s.met w;
            breach = s.breach;
          };
    })
    (record {
      outcome = value (breach s.clock n);
      after =
          record {
            config = s.config;
            clock = s.clock;
            met = s.met;
            stamps = s.stamps;
            breach = record { clock = s.clock; number = n };
          };
    })

-- a refusal leaves the state unchanged (RULES 7.2)
abbrev pub refusing : Checker → ℕ → Step
refusing s n = record { outcome = refused n; after = s }

-- refused by n, unless the test holds
abbrev pub step_if : Bool → ℕ → Checker → Step → Step
step_if holds n s rest = cond holds rest (refusing s n)

-- the sheet's refusals, 19, 23 where a breach is recorded, 24 at clock 16,777,216, in this order (RULES 7.1); else the word is judged
abbrev pub step_by : Outcome Timing → Checker → ℕ → Step
step_by (refused n) s w = refusing s n
step_by (value t) s w =
    step_if (clock_fits s.clock s.met s.stamps) 19 s
    (step_if (eqb s.breach.number 0) 23 s
    (step_if (ltb s.clock limit) 24 s
    (judged t s w)))

-- a step, on any state
abbrev pub step_of : Checker → ℕ → Step
step_of s w = step_by (timing_of s.config) s w
