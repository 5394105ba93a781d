-- The word that is laid down for a tick (RULES 8.3, 8.4): by the words given before, the requests waiting and the published rules, and
-- not by what a controller remembers.
use Rattle.std.specs.Prelude.{ℕ, zero, suc, ◌+◌, ◌-◌, Bool, false, cond, ◌&&◌, List, [], ◌∷◌, ◌++◌, length, get_or, eqb, leb}
use Rattle.std.proofs.Math.Option.{Option, none, some}
use Rattle.command.specs.Pairs.{desl}
use Rattle.config.specs.declared.Timing.{Timing}
use Rattle.writing.specs.Writing.{pair_of}
use Rattle.command.specs.declared.operation.Request.{Request}
use Rattle.command.specs.declared.operation.Pair.{Pair}
use Rattle.command.specs.declared.operation.Operation.{Operation}
use Rattle.command.specs.declared.operation.Operation.TheVariants.{Access, Regular, Extended, Refresh}
use Rattle.queue.specs.Place.{without}
use Rattle.rules.specs.History.{ClosedPair, Past, nothing, extend}
use Rattle.rules.specs.Rules.{closings, was_extended, was_regular, was_refresh, breach_at}

-- the entry at a place, if there is one
abbrev pub entry_at : {A : Type 0} → ℕ → List A → Option A
entry_at p [] = none
entry_at zero (x ∷ xs) = some x
entry_at (suc p) (x ∷ xs) = entry_at p xs

-- how far a list of calls has come: the words given, as a past; what the open pair stands for, and if it is a request's, at which place
-- that waits; the requests waiting, oldest first
pub record Course : Type 0 where
  pub past : Past
  pub opened : Option Operation
  pub place : ℕ
  pub waiting : List Request

-- a fresh controller: no word is given, no pair is open and nothing waits (RULES 8.1)
abbrev pub start : Course
start = record { past = nothing; opened = none; place = 0; waiting = [] }

-- the first that there is
abbrev pub first_of_two : Option Operation → Option Operation → Option Operation
first_of_two none other = other
first_of_two (some o) other = some o

-- case 2 of RULES 8.3: the first that is missing of extended MRS, regular MRS and two REF words, the free bits of an MRS low
abbrev pub start_up : List ClosedPair → Option Operation
start_up ps =
    cond (leb 1 (length (closings was_extended ps)))
    (cond (leb 1 (length (closings was_regular ps))) (cond (leb 2 (length (closings was_refresh ps))) none (some Refresh))
    (some (Regular false)))
    (some (Extended 0))

-- case 3 of RULES 8.3: the clock is r + D − RC or later, where r is that of the last REF word
abbrev pub refresh_due : Timing → Past → Bool
refresh_due t p = leb (get_or (closings was_refresh p.pairs) 0 0 + t.refi - t.rc) p.clock

-- case 4 of RULES 8.3: the pair of the chosen request
abbrev pub asked : Option Request → Option Operation
asked none = none
asked (some r) = some (Access r)

-- cases 2 to 4 in this order, where no pair is open
abbrev pub candidate : Timing → Past → Option Request → Option Operation
candidate t p chosen = first_of_two (start_up p.pairs) (cond (refresh_due t p) (some Refresh) (asked chosen))

-- neither the first word, at this clock, nor the closing word, at the next, would breach a rule (RULES 8.4)
abbrev pub breachless : Timing → Past → Pair → Bool
breachless t p w = eqb (breach_at t p w.first) 0 && eqb (breach_at t (extend p w.first) w.second) 0

-- the pair o, if its words breach nothing
abbrev pub opening : Timing → Past → Option Operation → Option Operation
opening t p none = none
opening t p (some o) = cond (breachless t p (pair_of t o)) (some o) none

-- what opens at the next tick, if no pair is open and the request at place q is chosen
abbrev pub next_opened : Timing → Course → ℕ → Option Operation
next_opened t c q = opening t c.past (candidate t c.past (entry_at q c.waiting))

-- the first word of the pair that opens, or DESL
abbrev pub first_word : Timing → Option Operation → ℕ
first_word t none = desl
first_word t (some o) = (pair_of t o).first

-- the requests that wait once the closing word of an operation is given: the request at place q leaves with its own (RULES 8.2)
abbrev pub leave : Operation → ℕ → List Request → List Request
leave (Access r) q rs = without q rs
leave (Regular a3) q rs = rs
leave (Extended v) q rs = rs
leave Refresh q rs = rs

-- a tick's word, and how far the calls have come with it
pub record Advance : Type 0 where
  pub word : ℕ
  pub after : Course

-- the word w is given, and this is open and waiting then
abbrev pub giving : ℕ → Course → Option Operation → ℕ → List Request → Advance
giving w c opened place waiting =
    record { word = w; after = record { past = extend c.past w; opened = opened; place = place; waiting = waiting } }

-- case 1 of RULES 8.3, the closing word of the pair that is open; else the first word of the one that opens, or DESL
abbrev pub tick_with : Option Operation → ℕ → Timing → Course → Advance
tick_with (some o) q t c = giving (pair_of t o).second c none c.place (leave o c.place c.waiting)
tick_with none q t c = let o = next_opened t c q in giving (first_word t o) c o q c.waiting

-- a tick, by the pair that is open, and by the place that is chosen where none is
abbrev pub tick_at : ℕ → Timing → Course → Advance
tick_at q t c = tick_with c.opened q t c

-- a tick of the controller that opens the oldest request
abbrev pub tick : Timing → Course → Advance
tick t c = tick_at 0 t c

-- after an accepted offer: the request is behind those that wait (RULES 8.2)
abbrev pub queued : Course → Request → Course
queued c r = record { past = c.past; opened = c.opened; place = c.place; waiting = c.waiting ++ (r ∷ []) }
