-- What an answer about a word is in the terms of the rules.
use Rattle.std.specs.Prelude.{ℕ, Option, Some, None}
use Rattle.early.specs.declared.rule.Rule.{Rule}
use Rattle.early.specs.declared.rule.Rule.TheVariants.{
  StrayBit,
  LowPd,
  RefreshOverdue,
  WrongMode,
  ReservedLane,
  NotReady,
  SameBank,
  TooClose,
  AfterMode,
  AfterRefresh,
  Busy,
  RefreshWindow,
  SelectedAtExit,
}

-- the number of a rule, that behind the dot in section 4 of RULES
abbrev pub rule_number : Rule → ℕ
rule_number StrayBit = 1
rule_number LowPd = 2
rule_number RefreshOverdue = 3
rule_number WrongMode = 4
rule_number ReservedLane = 5
rule_number NotReady = 6
rule_number SameBank = 7
rule_number TooClose = 8
rule_number AfterMode = 9
rule_number AfterRefresh = 10
rule_number Busy = 11
rule_number RefreshWindow = 12
rule_number SelectedAtExit = 13

-- the number of the rule that a word breaches, 0 where it breaches none (RULES 5.1)
abbrev pub breach_number : Option Rule → ℕ
breach_number None = 0
breach_number (Some r) = rule_number r

-- the last clock that rule 3 allows, 0 where it allows any
abbrev pub deadline_number : Option ℕ → ℕ
deadline_number None = 0
deadline_number (Some last) = last
