-- The first rule of a row whose test holds has the lowest number of those whose tests hold.
use Rattle.std.proofs.Common.{◌≡◌, refl, true, false, Bool, [], ◌∷◌}
use Rattle.std.specs.Option.{option_or}
use Rattle.std.specs.Bool.{then_some}
use Rattle.early.specs.Answers.{breach_number}
use Rattle.early.specs.declared.rule.Rule.TheVariants.{
  WrongMode,
  ReservedLane,
  NotReady,
  SameBank,
  TooClose,
  AfterMode,
  AfterRefresh,
  Busy,
  RefreshWindow,
}
use Rattle.rules.specs.Rules.{lowest}

pub of_access : (b5 b6 b7 b8 b9 b10 : Bool) → breach_number
    (option_or (option_or (option_or (option_or (option_or (then_some b5 ReservedLane) (then_some b6 NotReady)) (then_some b7 SameBank))
    (then_some b8 TooClose)) (then_some b9 AfterMode)) (then_some b10 AfterRefresh))
    ≡ lowest 5 (b5 ∷ b6 ∷ b7 ∷ b8 ∷ b9 ∷ b10 ∷ [])
of_access true b6 b7 b8 b9 b10 = refl
of_access false true b7 b8 b9 b10 = refl
of_access false false true b8 b9 b10 = refl
of_access false false false true b9 b10 = refl
of_access false false false false true b10 = refl
of_access false false false false false true = refl
of_access false false false false false false = refl

pub of_other : (b4 b9 b10 b11 b12 : Bool) → breach_number
    (option_or (option_or (option_or (option_or (then_some b4 WrongMode) (then_some b9 AfterMode)) (then_some b10 AfterRefresh))
    (then_some b11 Busy)) (then_some b12 RefreshWindow))
    ≡ lowest 4 (b4 ∷ false ∷ false ∷ false ∷ false ∷ b9 ∷ b10 ∷ b11 ∷ b12 ∷ [])
of_other true b9 b10 b11 b12 = refl
of_other false true b10 b11 b12 = refl
of_other false false true b11 b12 = refl
of_other false false false true b12 = refl
of_other false false false false true = refl
of_other false false false false false = refl
