-- All eight cases of the paper's section "Clocks on either edge, sheet E" as one table, and one test that is computed over all of it. Case
-- a goes by the words that are laid down.
use Rattle.std.specs.Prelude.{ℕ, ◌≡◌, refl, Bool, true, false, cond, List, [], ◌∷◌, ◌++◌, eqb}
use Rattle.config.specs.Configuration.{institute, derived}
use Rattle.config.specs.declared.Timing.{Timing}
use Rattle.command.specs.Pins.{level}
use Rattle.model.specs.Laid.{Course, start, tick, queued}
use Rattle.model.specs.Traces.{words, start_up_pairs, read_at, bank0_read}
use Rattle.cases.specs.CheckerCases.{Row, row, agree, checker_cases}

-- the next words are these
abbrev pub gives : Timing → Course → List ℕ → Bool
gives t c [] = true
gives t c (w ∷ ws) = let r = tick t c in cond (eqb r.word w) (gives t r.after ws) false

-- case a, then the figures of sheet E and the cases b to h
abbrev pub table : List Row
table =
    -- a (RULES 8.5): a fresh controller that was offered this read gives the start-up, RDA at 201, and at every other clock C0000, at 200
    -- too
    row (level (gives (derived institute) (queued start bank0_read) (words 0 (start_up_pairs ++ (read_at 201 0 ∷ [])) 1))) 1
    ∷ checker_cases

-- every row is as it should be
pub cases : agree table ≡ true
cases = refl
