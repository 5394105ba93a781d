-- What the calls on a cursor promise (RULES 5.5).
use Rattle.std.specs.Prelude.{◌≡◌, List, ℕ, Result}
use Rattle.std.specs.Borrow.{Bor}
use Rattle.basics.specs.declared.refusal.Refusal.{Refusal}
use Rattle.config.specs.declared.Config.{Config}
use Rattle.checker.specs.Steps.{fresh}
use Rattle.walks.specs.Walk.{MovePromised}
use Rattle.walks.specs.declared.Progress.{Progress}
use Rattle.cursor.specs.declared.TraceCursor.{TraceCursor}

-- what the contract of `advance` says of a walk that is s before the call and `after` afterwards
abbrev pub AdvancePromised : TraceCursor → Result Progress Refusal → TraceCursor → Type 0
AdvancePromised s answer after =
    (after.words ≡ s.words) × MovePromised s.checker s.words.now (record { progress = answer; checker = after.checker })

-- what that of `new` says of the walk r
abbrev pub NewPromised : Bor (List ℕ) → Config → TraceCursor → Type 0
NewPromised words c r = (r.words ≡ words) × (r.checker ≡ fresh c)
