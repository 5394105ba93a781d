-- The exam site's answer as one number (RULES 10.1).
use Rattle.std.specs.Prelude.{ℕ, ◌+◌, ◌*◌}
use Rattle.basics.specs.Outcome.{Outcome, value, refused}
use Rattle.rules.specs.Verdict.{Judgement, accepted, breach}

-- 0 for accepted, a refusal's number, or the clock of a breach times 64 plus its number (RULES 10.1)
abbrev pub number_of : Outcome Judgement → ℕ
number_of (value accepted) = 0
number_of (value (breach clock n)) = clock * 64 + n
number_of (refused n) = n
