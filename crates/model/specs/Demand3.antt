-- Demand 3 (RULES 8.7): one claim on every list of offers and ticks, refused ones included, that is made from a fresh controller on an
-- accepted sheet, each call on the controller that the last one handed back.
use Rattle.std.specs.Prelude.{◌≤◌, ◌<◌, ◌≡◌, List, ◌∷◌, ◌++◌, map, length, get_or, ltb}
use Rattle.basics.specs.Numbers.{limit}
use Rattle.basics.specs.Outcome.{value, refused, require}
use Rattle.config.specs.Configuration.{timing_of}
use Rattle.config.specs.declared.Config.{Config}
use Rattle.config.specs.declared.Timing.{Timing}
use Rattle.writing.specs.Writing.{request_fits}
use Rattle.command.specs.declared.operation.Request.{Request}
use Rattle.rules.specs.Verdict.{accepted, judge}
use Rattle.rules.specs.Turns.{pairs_of, requests_of}
use Rattle.model.specs.Runs.{Call, Accepted, Run, run, prescribed, first_words, latest_start}
use Rattle.controller.specs.Steps.{held, offer_of, tick_of}

-- the requests that were put out: those of the closed read and write pairs
abbrev pub put_out : Timing → Run → List Request
put_out t r = requests_of t (pairs_of r.words)

-- the requests that were accepted
abbrev pub taken : Run → List Request
taken r = map (λ a. a.request) r.accepted

-- the requests that were put out, and behind them those that wait, are the accepted ones: all of them, in order, field for field
abbrev pub InOrder : Timing → Run → Type 0
InOrder t r = put_out t r ++ held r.controller ≡ taken r

-- an accepted request has its first word no later than clock max(c, 201) + (q + 1) × S + RC + REFC, if the word at that clock is among
-- those given: the request behind n older ones has the n-th of the first words, counted from 0
abbrev pub Prompt : Timing → List Call → Run → Type 0
Prompt t calls r =
    (older newer : List Accepted) (a : Accepted) → r.accepted ≡ older ++ a ∷ newer → latest_start t a < length r.words
    → let firsts = first_words r.words (prescribed t calls).course.opened in
    (length older < length firsts) × (get_or firsts (length older) 0 ≤ latest_start t a)

-- what holds of the run r of these calls
pub record Holds (t : Timing) (calls : List Call) (r : Run) : Type 0 where
  -- the words given are those that are laid down for the same calls (RULES 8.3, 8.4)
  pub laid_down : r.words ≡ (prescribed t calls).words
  -- as a trace they are accepted
  pub sound : judge t r.words ≡ accepted
  pub in_order : InOrder t r
  pub prompt : Prompt t calls r
  -- whatever is offered next is refused by 26 if a field is out of range, else by 27 if sixteen wait, and otherwise accepted
  pub offer-refused : (q : Request)
      → (offer_of r.controller q).outcome ≡ require (request_fits t q) 26 (require (ltb (length (held r.controller)) 16) 27 (value tt))
  -- the next tick is refused by 24 if 16,777,216 words are given, and otherwise accepted
  pub tick-refused : (tick_of r.controller).outcome ≡ require (ltb (length r.words) limit) 24 (value tt)

-- the theorem
pub record Demand3 : Type 0 where
  -- for every accepted sheet and every list of calls
  pub holds : (c : Config) (t : Timing) → timing_of c ≡ value t → (calls : List Call) → Holds t calls (run c calls)
  -- whatever calls were made from a fresh controller, on any sheet, the next one is not refused by 19 (RULES 6.19)
  pub offer-never-19 : (c : Config) (calls : List Call) (q : Request) → (offer_of (run c calls).controller q).outcome ≡ refused 19 → ⊥
  pub tick-never-19 : (c : Config) (calls : List Call) → (tick_of (run c calls).controller).outcome ≡ refused 19 → ⊥
