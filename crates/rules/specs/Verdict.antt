-- The verdict on a trace (RULES 5): accepted, or the first clock with a breach and the lowest number there.
use Rattle.std.specs.Prelude.{ℕ, zero, suc, ◌/◌, ◌%◌, List, [], ◌∷◌, length, eqb, leb}
use Rattle.basics.specs.Numbers.{limit}
use Rattle.basics.specs.Outcome.{Outcome, value, require, given}
use Rattle.config.specs.Configuration.{timing_of}
use Rattle.config.specs.declared.Config.{Config}
use Rattle.config.specs.declared.Timing.{Timing}
use Rattle.words.specs.Words.{words_of}
use Rattle.rules.specs.History.{Past, nothing, extend}
use Rattle.rules.specs.Rules.{Rule, rules, breach_by}

-- accepted, or a breach by its clock and its number
pub data Judgement : Type 0 where
  accepted : Judgement
  breach : ℕ → ℕ → Judgement

-- a word's breach ends the trace; a word without one leads on
abbrev pub lead : ℕ → ℕ → Judgement → Judgement
lead zero clock rest = rest
lead (suc n) clock rest = breach clock (suc n)

-- the words that come after a past, by a table of rules. A pair that is open at the end has no closing word, so nothing of it is judged
-- (RULES 5.2).
abbrev pub judge_by : List Rule → Timing → Past → List ℕ → Judgement
judge_by table t p [] = accepted
judge_by table t p (w ∷ ws) = let rest = judge_by table t (extend p w) ws in lead (breach_by table t p w) p.clock rest

-- the words that come after a past, by the published rules
abbrev pub judge_from : Timing → Past → List ℕ → Judgement
judge_from t p words = judge_by rules t p words

-- a trace from power-up on (RULES 5.1)
abbrev pub judge : Timing → List ℕ → Judgement
judge t words = judge_from t nothing words

-- the whole check: the verdict; or the sheet's refusals, then 24 for more than 16,777,216 words, whatever stands in them (RULES 5.3)
abbrev pub check_of : Config → List ℕ → Outcome Judgement
check_of c words = given (timing_of c) (λ t. require (leb (length words) limit) 24 (value (judge t words)))

-- the whole check of a trace in little-endian bytes: 29, if they are no multiple of four, comes behind the sheet's refusals and before 24
-- (RULES 7.1)
abbrev pub check_bytes_of : Config → List ℕ → Outcome Judgement
check_bytes_of c bytes =
    given (timing_of c)
    (λ t. require (eqb (length bytes % 4) 0) 29 (require (leb (length bytes / 4) limit) 24 (value (judge t (words_of bytes)))))
