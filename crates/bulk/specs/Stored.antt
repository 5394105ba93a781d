-- The six counts of a tally in a lent buffer.
use Rattle.std.specs.Prelude.{ℕ, List, ◌∷◌, cond, length, drop, leb}
use Rattle.counts.specs.Counts.{Counting, counting_of}
use Rattle.counts.specs.declared.CommandCounts.{CommandCounts}
use Rattle.config.specs.Configuration.{sheet_of}

-- the call on a sheet that is given by its numbers
abbrev pub counted_of : List ℕ → List ℕ → Counting
counted_of sheet words = counting_of (sheet_of sheet) words

-- they stand in the first six places of a list that has them; a shorter list stays
abbrev pub stored : CommandCounts → List ℕ → List ℕ
stored c places =
    cond (leb 6 (length places))
    (c.reads ∷ c.writes ∷ c.modes ∷ c.refreshes ∷ c.desls ∷ c.clocks.0 ∷ drop 6 places)
    places
