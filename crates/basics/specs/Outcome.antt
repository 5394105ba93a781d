-- What a call comes to in the paper's terms: a value, or a refusal by its number. Of several refusals that apply the answer is the one
-- that is tried first (RULES 7.1).
use Rattle.std.specs.Prelude.{ℕ, Bool, true, false}

-- a value, or a refusal by its number
pub data Outcome (A : Type 0) : Type 0 where
  value : A → Outcome A
  refused : ℕ → Outcome A

-- the refusal n unless the test holds, and then the rest
abbrev pub require : {A : Type 0} → Bool → ℕ → Outcome A → Outcome A
require true n rest = rest
require false n rest = refused n

-- the first call's refusal, and otherwise what its value leads to
abbrev pub given : {A B : Type 0} → Outcome A → (A → Outcome B) → Outcome B
given (value a) rest = rest a
given (refused n) rest = refused n
