-- The pairs that a controller opens: the words of each, and which comes next (RULES 8.3).
use Rattle.std.specs.Prelude.{ℕ, ◌+◌, Bool, true, false, cond, ◌||◌, get_or, eqb, leb, ltb}
use Rattle.command.specs.Pairs.{desl}
use Rattle.config.specs.declared.Timing.{Timing}
use Rattle.writing.specs.Writing.{pair_of}
use Rattle.command.specs.declared.operation.Request.{Request}
use Rattle.command.specs.declared.operation.Pair.{Pair}
use Rattle.command.specs.declared.operation.Operation.TheVariants.{Access}
use Rattle.command.specs.declared.operation.Operation.TheVariants.{Regular as RegularMode, Extended as ExtendedMode, Refresh as Refreshing}
use Rattle.stamps.specs.declared.Timestamps.{Timestamps}
use Rattle.scheduler.specs.declared.OpenPair.{OpenPair}
use Rattle.scheduler.specs.declared.OpenPair.TheVariants.{Nothing, Extended, Regular, Refresh, Waiting}

-- the two words of an open pair, from what it stands for and the request at its place; DESL where none is open
abbrev pub pair_words : Timing → OpenPair → Request → Pair
pair_words t Nothing request = record { first = desl; second = desl }
pair_words t Extended request = pair_of t (ExtendedMode 0)
pair_words t Regular request = pair_of t (RegularMode false)
pair_words t Refresh request = pair_of t Refreshing
pair_words t (Waiting place) request = pair_of t (Access request)

-- a pair is open
abbrev pub is_open : OpenPair → Bool
is_open Nothing = false
is_open Extended = true
is_open Regular = true
is_open Refresh = true
is_open (Waiting place) = true

-- the pair of a waiting request is open
abbrev pub of_waiting : OpenPair → Bool
of_waiting Nothing = false
of_waiting Extended = false
of_waiting Regular = false
of_waiting Refresh = false
of_waiting (Waiting place) = true

-- the place of the request whose pair is open; 0 where it is no request's
abbrev pub place_of : OpenPair → ℕ
place_of Nothing = 0
place_of Extended = 0
place_of Regular = 0
place_of Refresh = 0
place_of (Waiting place) = place

-- the pair of the request at a place, where so many wait; nothing where none waits there
abbrev pub chosen_at : ℕ → ℕ → OpenPair
chosen_at place count = cond (ltb place count) (Waiting place) Nothing

-- cases 2 to 4 of RULES 8.3, where no pair is open: the first that is missing of the start-up; a refresh, at r + D − RC or later, where r
-- is the last REF word; the pair of the chosen request
abbrev pub next_pair : Timing → Timestamps → ℕ → OpenPair → OpenPair
next_pair t s clock chosen =
    cond (eqb s.extended 0) Extended
    (cond (eqb s.regular 0) Regular
    (cond (eqb (get_or s.refs 1 0) 0 || leb (get_or s.refs 0 0 + t.refi) (clock + t.rc)) Refresh chosen))
