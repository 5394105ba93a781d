-- What an answer of the code is in the paper's terms: its value, or the number of its refusal.
use Rattle.std.specs.Prelude.{ℕ, List, ◌++◌, codes, decimal, Result, Ok, Err}
use Rattle.basics.specs.Outcome.{Outcome, value, refused}
use Rattle.basics.specs.Numbers.{refusal_number}
use Rattle.basics.specs.declared.refusal.Refusal.{Refusal}

-- an answer whose value is spoken of as it is
abbrev pub outcome_of : {A : Type 0} → Result A Refusal → Outcome A
outcome_of (Ok a) = value a
outcome_of (Err r) = refused (refusal_number r)

-- an answer whose value is spoken of through f
abbrev pub outcome_by : {A B : Type 0} → (A → B) → Result A Refusal → Outcome B
outcome_by f (Ok a) = value (f a)
outcome_by f (Err r) = refused (refusal_number r)

-- what is written of a refusal
abbrev pub refusal_text : Refusal → List ℕ
refusal_text r = codes "refused " ++ decimal (refusal_number r)
