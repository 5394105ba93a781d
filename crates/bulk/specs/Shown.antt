-- The check in the limits of two sheets, and the sheet that is shown in a lent array.
use Rattle.std.specs.Prelude.{ℕ, List}
use Rattle.basics.specs.Outcome.{Outcome, value, refused}
use Rattle.config.specs.Configuration.{sheet_of, numbers_of}
use Rattle.limits.specs.Limits.{Finding, always, breach_on, within_of}

-- the check in the limits of two sheets that are given by their numbers
abbrev pub found_of : List ℕ → List ℕ → List ℕ → Outcome Finding
found_of least greatest words = within_of (sheet_of least) (sheet_of greatest) words

-- a sheet that is shown stands in the places; otherwise they stay
abbrev pub shown_in : Outcome Finding → List ℕ → List ℕ
shown_in (value always) places = places
shown_in (value (breach_on c clock n)) places = numbers_of c
shown_in (refused n) places = places
