-- An answer as one number.
use Rattle.std.specs.Prelude.{ℕ, ◌+◌, ◌*◌}
use Rattle.basics.specs.Outcome.{Outcome, value, refused}
use Rattle.rules.specs.Verdict.{Judgement, accepted, breach}
use Rattle.limits.specs.Limits.{Finding, always, breach_on}
use Rattle.walks.specs.Walk.{Reached, passed, breached, ended}

-- a breach is 2^40 and its clock times 64 and its number
abbrev pub breach_number : ℕ → ℕ → ℕ
breach_number clock n = 1099511627776 + clock * 64 + n

-- the answer of a check as one number: 0 for accepted, the refusal's number, or that of a breach
abbrev pub check_number : Outcome Judgement → ℕ
check_number (value accepted) = 0
check_number (value (breach clock n)) = breach_number clock n
check_number (refused n) = n

-- what is found in limits as one number: 0 for always, the refusal's number, or that of a breach
abbrev pub finding_number : Outcome Finding → ℕ
finding_number (value always) = 0
finding_number (value (breach_on c clock n)) = breach_number clock n
finding_number (refused n) = n

-- where a walk stops as one number: 0 for its end, the refusal's number, or that of a breach; one that stops does not pass, and the
-- number of a pass is no other answer's
abbrev pub walk_number : Outcome Reached → ℕ
walk_number (value passed) = 1
walk_number (value (breached clock n)) = breach_number clock n
walk_number (value ended) = 0
walk_number (refused n) = n
