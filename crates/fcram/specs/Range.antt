-- For a private function alone: what keeps the number within 32 bits.
use Rattle.std.specs.Prelude.{◌<◌}
use Rattle.basics.specs.Numbers.{limit}
use Rattle.basics.specs.Outcome.{Outcome, value, refused}
use Rattle.rules.specs.Verdict.{Judgement, accepted, breach}

-- a breach is at a clock of a trace, and its number is below 64
abbrev pub Small : Outcome Judgement → Type 0
Small (value accepted) = Unit {0}
Small (value (breach clock n)) = (clock < limit) × (n < 64)
Small (refused n) = Unit {0}
