-- What each call of a controller answers, and the state that it leaves, for every state there is (RULES 8.2 to 8.4).
use Rattle.std.specs.Prelude.{ℕ, ◌+◌, ◌-◌, Bool, cond, Result, not, ◌&&◌, List, set, take, eqb, leb, ltb}
use Rattle.command.specs.Pairs.{desl}
use Rattle.basics.specs.Answers.{outcome_of}
use Rattle.basics.specs.Outcome.{Outcome, value, refused}
use Rattle.basics.specs.Numbers.{limit}
use Rattle.basics.specs.declared.refusal.Refusal.{Refusal}
use Rattle.config.specs.Configuration.{timing_of}
use Rattle.config.specs.declared.Timing.{Timing}
use Rattle.writing.specs.Writing.{request_fits}
use Rattle.command.specs.declared.operation.Request.{Request}
use Rattle.command.specs.declared.operation.Pair.{Pair}
use Rattle.stamps.specs.Stamps.{remembered}
use Rattle.rules.specs.Breaches.{word_breach}
use Rattle.consistency.specs.Consistency.{clock_fits}
use Rattle.stamps.specs.declared.Timestamps.{Timestamps}
use Rattle.queue.specs.Place.{closed_up}
use Rattle.queue.specs.Queue.{vacant, all_fit, request_at}
use Rattle.scheduler.specs.Pairs.{pair_words, is_open, of_waiting, place_of, chosen_at, next_pair}
use Rattle.scheduler.specs.declared.OpenPair.{OpenPair}
use Rattle.scheduler.specs.declared.OpenPair.TheVariants.{Nothing}
use Rattle.controller.specs.declared.Controller.{Controller}
use Rattle.controller.specs.declared.Offered.{Offered}
use Rattle.controller.specs.declared.Ticked.{Ticked}

-- what a call answers: that it is accepted, or why it is refused
abbrev pub CallAnswer : Type 0
CallAnswer = Result (Unit {0}) Refusal

-- what an answer is in the paper's terms
abbrev pub call_outcome : CallAnswer → Outcome (Unit {0})
call_outcome answer = outcome_of answer

-- an offer's answer, and the state that it leaves
pub record Offer : Type 0 where
  pub outcome : Outcome (Unit {0})
  pub after : Controller

-- what `Controller::offer` returns, as these two
abbrev pub offered : Offered → Offer
offered r = record { outcome = call_outcome r.answer; after = r.controller }

-- a tick's answer, the word that it gives, and the state that it leaves
pub record Tick : Type 0 where
  pub outcome : Outcome (Unit {0})
  pub word : ℕ
  pub after : Controller

-- what `Controller::tick` returns, as these three
abbrev pub ticked : Ticked → Tick
ticked r = record { outcome = call_outcome r.answer; word = r.word; after = r.controller }

-- the requests that wait, oldest first
abbrev pub held : Controller → List Request
held s = take s.count s.waiting

-- no refusal 19 (RULES 6.19): the clock is at most 16,777,216 and every event before it, no pair is open at clock 0, at most sixteen
-- wait, each with every field in its range, and where a request's pair is open, one waits at its place. The first word of an open pair is
-- an event too: it stands one clock back.
abbrev pub state_fits : Timing → Controller → Bool
state_fits t s =
    clock_fits s.clock desl s.stamps
    && not (eqb s.clock 0 && is_open s.opened)
    && leb s.count 16
    && all_fit t (held s)
    && not (of_waiting s.opened && leb s.count (place_of s.opened))

-- an accepted request goes behind those that wait (RULES 8.2)
abbrev pub joined : Controller → Request → Controller
joined s r =
    record {
      config = s.config;
      clock = s.clock;
      opened = s.opened;
      stamps = s.stamps;
      waiting = set s.waiting s.count r;
      count = s.count + 1;
    }

-- a refused offer changes nothing (RULES 7.2)
abbrev pub not_offered : Controller → ℕ → Offer
not_offered s n = record { outcome = refused n; after = s }

-- refused by n, unless the test holds
abbrev pub offer_if : Bool → ℕ → Controller → Offer → Offer
offer_if holds n s rest = cond holds rest (not_offered s n)

-- the sheet's refusals, 19, 26 for a field out of range, 27 where sixteen wait, in this order (RULES 7.1); else the request is accepted
abbrev pub offer_by : Outcome Timing → Controller → Request → Offer
offer_by (refused n) s r = not_offered s n
offer_by (value t) s r =
    offer_if (state_fits t s) 19 s
    (offer_if (request_fits t r) 26 s
    (offer_if (ltb s.count 16) 27 s
    (record { outcome = value tt; after = joined s r })))

-- an offer, to any state
abbrev pub offer_of : Controller → Request → Offer
offer_of s r = offer_by (timing_of s.config) s r

-- neither of the pair's words, the first at this clock, the second at the next, would breach a rule (RULES 8.4)
abbrev pub passes : Timing → Timestamps → ℕ → Pair → Bool
passes t s clock w = eqb (word_breach t s clock desl w.first) 0 && eqb (word_breach t s (clock + 1) w.first w.second) 0

-- the pair that opens at the clock, or none, where the request at place q is chosen; where none waits there, none is chosen
abbrev pub opens_next : Timing → Controller → ℕ → OpenPair
opens_next t s q =
    let next = next_pair t s.stamps s.clock (chosen_at q s.count) in
    cond (passes t s.stamps s.clock (pair_words t next (request_at q s.waiting))) next Nothing

-- a tick with no pair open: the first word of the pair that opens, or DESL (RULES 8.3, 8.4)
abbrev pub starting : Timing → Controller → ℕ → Tick
starting t s q =
    let next = opens_next t s q in
    record {
      outcome = value tt;
      word = (pair_words t next (request_at q s.waiting)).first;
      after =
          record {
            config = s.config;
            clock = s.clock + 1;
            opened = next;
            stamps = s.stamps;
            waiting = s.waiting;
            count = s.count;
          };
    }

-- a tick with a pair open: its closing word, with which a request leaves (RULES 8.2, case 1 of 8.3)
abbrev pub closing : Timing → Controller → Tick
closing t s =
    let w = pair_words t s.opened (request_at (place_of s.opened) s.waiting) in
    record {
      outcome = value tt;
      word = w.second;
      after =
          record {
            config = s.config;
            clock = s.clock + 1;
            opened = Nothing;
            stamps = remembered t.four s.stamps s.clock w.first w.second;
            waiting = cond (of_waiting s.opened) (closed_up vacant (place_of s.opened) s.count s.waiting) s.waiting;
            count = cond (of_waiting s.opened) (s.count - 1) s.count;
          };
    }

-- a refused tick changes nothing and gives word 0 (RULES 7.2)
abbrev pub not_ticked : Controller → ℕ → Tick
not_ticked s n = record { outcome = refused n; word = 0; after = s }

-- refused by n, unless the test holds
abbrev pub tick_if : Bool → ℕ → Controller → Tick → Tick
tick_if holds n s rest = cond holds rest (not_ticked s n)

-- 19, 24 at clock 16,777,216, in this order (RULES 7.1); else the word for the clock, where the request at place q is chosen
abbrev pub tick_choosing : Timing → Controller → ℕ → Tick
tick_choosing t s q =
    tick_if (state_fits t s) 19 s
    (tick_if (ltb s.clock limit) 24 s
    (cond (is_open s.opened) (closing t s) (starting t s q)))

-- the sheet's refusals first (RULES 7.1); the oldest request is chosen
abbrev pub tick_by : Outcome Timing → Controller → Tick
tick_by (refused n) s = not_ticked s n
tick_by (value t) s = tick_choosing t s 0

-- a tick, of any state
abbrev pub tick_of : Controller → Tick
tick_of s = tick_by (timing_of s.config) s
