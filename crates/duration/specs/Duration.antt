-- How long a trace lasts (RULES 1.7), from its word count and the sheet's period.
use Rattle.std.specs.Prelude.{ℕ, ◌*◌, ◌/◌, ◌%◌, leb}
use Rattle.basics.specs.Numbers.{limit}
use Rattle.basics.specs.Outcome.{Outcome, value, require, given}
use Rattle.config.specs.Configuration.{timing_of}
use Rattle.config.specs.declared.Config.{Config}
use Rattle.duration.specs.declared.Duration.{Duration}

-- so many picoseconds as whole nanoseconds and the picoseconds left over
abbrev pub in_nanoseconds : ℕ → Duration
in_nanoseconds p = record { whole = record { 0 = p / 1000 }; rest = record { 0 = p % 1000 } }

-- what the call on n words comes to: the sheet's refusals, then 32 (RULES 7.1); otherwise n periods
abbrev pub duration_of : Config → ℕ → Outcome Duration
duration_of c n = given (timing_of c) (λ t. require (leb n limit) 32 (value (in_nanoseconds (n * c.period.0))))
