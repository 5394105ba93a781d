-- Text as ASCII codes.
use Rattle.std.specs.Prelude.{ℕ, ◌+◌, ◌/◌, ◌%◌, cond, List, [], ◌∷◌, ◌++◌, take, leb}
use Rattle.line.specs.declared.Line.{Line}

-- what a line holds
abbrev pub text : Line → List ℕ
text l = take l.len l.bytes

-- a number's digits from the first of these powers of ten on, the highest first, with no zero in front
abbrev pub digits_by : List ℕ → ℕ → List ℕ
digits_by [] n = (48 + n % 10) ∷ []
digits_by (p ∷ ps) n = cond (leb p n) ((48 + n / p % 10) ∷ []) [] ++ digits_by ps n

-- the powers of ten that a number of 32 bits can have digits for, but the last
abbrev pub powers : List ℕ
powers = 1000000000 ∷ 100000000 ∷ 10000000 ∷ 1000000 ∷ 100000 ∷ 10000 ∷ 1000 ∷ 100 ∷ 10 ∷ []

-- a number of 32 bits in decimal
abbrev pub decimal : ℕ → List ℕ
decimal n = digits_by powers n
