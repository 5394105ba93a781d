-- Sheets known within limits (RULES 5.7): what the call on a least sheet, a greatest one and a trace comes to.
use Rattle.std.specs.Prelude.{ℕ, Bool, ◌&&◌, List, length, eqb, leb}
use Rattle.basics.specs.Numbers.{limit}
use Rattle.basics.specs.Outcome.{Outcome, value, require, given}
use Rattle.config.specs.Configuration.{timing_of}
use Rattle.config.specs.declared.Config.{Config}
use Rattle.rules.specs.Verdict.{Judgement, accepted, breach, judge}

-- they agree in grade, CL, BL, organisation and wiring
abbrev pub alike : Config → Config → Bool
alike a b =
    eqb a.grade b.grade
    && eqb a.cl b.cl
    && eqb a.bl b.bl
    && eqb a.organisation b.organisation
    && eqb a.wiring b.wiring

-- the first is above the second neither in the period nor in one of the five counts
abbrev pub nowhere_above : Config → Config → Bool
nowhere_above a b =
    leb a.period.0 b.period.0
    && leb a.rbd.0 b.rbd.0
    && leb a.rwd.0 b.rwd.0
    && leb a.wrd.0 b.wrd.0
    && leb a.rsc.0 b.rsc.0
    && leb a.refc.0 b.refc.0

-- accepted on every sheet in the limits, or a sheet there with the clock and the number of the breach on it
pub data Finding : Type 0 where
  always : Finding
  breach_on : Config → ℕ → ℕ → Finding

-- a sheet is shown if its verdict is a breach; otherwise what the rest comes to
abbrev pub shown : Config → Judgement → Finding → Finding
shown c accepted rest = rest
shown c (breach clock n) rest = breach_on c clock n

-- what the call comes to: the first sheet's refusals, the second's, 35 and 24, in this order (RULES 7.1); otherwise the
-- first of the two on which the words are in breach. They decide for all between them (Within)
abbrev pub within_of : Config → Config → List ℕ → Outcome Finding
within_of a b words =
    given (timing_of a)
    (λ s. given (timing_of b)
    (λ t. require (alike a b && nowhere_above a b) 35
    (require (leb (length words) limit) 24 (value (shown a (judge s words) (shown b (judge t words) always))))))
