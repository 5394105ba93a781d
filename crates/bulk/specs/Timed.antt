-- The answer of a length in time: 0 or the refusal's number, and its two numbers in a lent array.
use Rattle.std.specs.Prelude.{ℕ, List, [], ◌∷◌}
use Rattle.basics.specs.Outcome.{Outcome, value, refused}
use Rattle.duration.specs.Duration.{duration_of}
use Rattle.duration.specs.declared.Duration.{Duration}
use Rattle.config.specs.Configuration.{sheet_of}

-- the call on a sheet that is given by its numbers
abbrev pub timed_of : List ℕ → ℕ → Outcome Duration
timed_of sheet count = duration_of (sheet_of sheet) count

-- 0, or the refusal's number
abbrev pub timed_number : Outcome Duration → ℕ
timed_number (value d) = 0
timed_number (refused n) = n

-- nanoseconds and rest stand in the places; those of a refused call stay
abbrev pub timed_in : Outcome Duration → List ℕ → List ℕ
timed_in (value d) places = d.whole.0 ∷ d.rest.0 ∷ []
timed_in (refused n) places = places
