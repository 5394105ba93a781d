-- What an answer of this crate is in the paper's terms.
use Rattle.std.specs.Prelude.{Option, None, Some, Result}
use Rattle.basics.specs.Outcome.{Outcome}
use Rattle.basics.specs.Answers.{outcome_by}
use Rattle.basics.specs.declared.refusal.Refusal.{Refusal}
use Rattle.limits.specs.Limits.{Finding, always, breach_on}
use Rattle.limits.specs.declared.BreachOn.{BreachOn}

-- what is found on two sheets in the paper's terms: no breach on either, or the sheet that is shown with the breach on it (RULES 5.7)
abbrev pub finding_of : Option BreachOn → Finding
finding_of None = always
finding_of (Some f) = breach_on f.sheet f.breach.clock f.breach.number

-- the answer of `check_within`: what is found, or the number of its refusal (RULES 5.7)
abbrev pub finding_outcome : Result (Option BreachOn) Refusal → Outcome Finding
finding_outcome r = outcome_by finding_of r
