-- The number of each refusal, and the limit of clocks.
use Rattle.std.specs.Prelude.{ℕ}
use Rattle.basics.specs.declared.refusal.Refusal.{Refusal}
use Rattle.basics.specs.declared.refusal.Refusal.TheVariants.{
  State,
  Part,
  Period,
  Count,
  InBreach,
  ClockLimit,
  InputSize,
  Field,
  QueueFull,
  NotAPair,
  PartialWord,
  TooLong,
  WordCount,
  ShortRefresh,
  Wiring,
  Limits,
}

-- the number behind the dot in section 6 of RULES
abbrev pub refusal_number : Refusal → ℕ
refusal_number State = 19
refusal_number Part = 20
refusal_number Period = 21
refusal_number Count = 22
refusal_number InBreach = 23
refusal_number ClockLimit = 24
refusal_number InputSize = 25
refusal_number Field = 26
refusal_number QueueFull = 27
refusal_number NotAPair = 28
refusal_number PartialWord = 29
refusal_number TooLong = 30
refusal_number WordCount = 32
refusal_number ShortRefresh = 33
refusal_number Wiring = 34
refusal_number Limits = 35

-- the most words that a trace has, and the clock behind the last of them (RULES 5.3)
abbrev pub limit : ℕ
limit = 16777216
