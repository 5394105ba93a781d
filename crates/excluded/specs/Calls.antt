-- Calls of a controller, of either form: what a wrong program would answer and leave at some state, which the contract excludes.
use Rattle.std.specs.Prelude.{ℕ, replicate, Ok}
use Rattle.command.specs.Pairs.{desl}
use Rattle.basics.specs.Numbers.{limit}
use Rattle.config.specs.Configuration.{institute}
use Rattle.controller.specs.States.{fresh}
use Rattle.controller.specs.Steps.{CallAnswer, joined, tick_of}
use Rattle.controller.specs.declared.Controller.{Controller}
use Rattle.model.specs.Traces.{bank0_read}
use Rattle.model.specs.Runs.{Call, offer, tick}
use Rattle.forms.specs.EitherForm.{Form, Promised}

-- no contract lets the call x on s answer so and leave `after`: not that of `offer` and `tick` of `borrowed`, and not that of
-- `Controller::offer` and `Controller::tick`, whose equations `offer_through` and `tick_through` of `lending` have too
abbrev pub Never : Controller → Call → CallAnswer → ℕ → Controller → Type 0
Never s x answer word after = (form : Form) → Promised form s x answer word after → ⊥

-- a fresh controller, on sheet E
abbrev pub begun : Controller
begun = fresh institute

-- one with sixteen waiting
abbrev pub full : Controller
full =
    record { config = institute; clock = 0; opened = begun.opened; stamps = begun.stamps; waiting = replicate 16 bank0_read; count = 16 }

-- one at the last clock
abbrev pub last : Controller
last = record { config = institute; clock = limit; opened = begun.opened; stamps = begun.stamps; waiting = begun.waiting; count = 0 }

-- of each, whatever it answers, gives or leaves besides
pub record Calls : Type 0 where
  -- an offer that leaves the controller as it was
  pub offer_lost : (a : CallAnswer) → Never begun (offer bank0_read) a 0 begun
  -- one that is made twice
  pub offer_twice : (a : CallAnswer) → Never begun (offer bank0_read) a 0 (joined (joined begun bank0_read) bank0_read)
  -- one that accepts a seventeenth request
  pub offer_seventeenth : (after : Controller) → Never full (offer bank0_read) (Ok tt) 0 after
  -- one that counts it
  pub offer-refused-counted : (a : CallAnswer) → Never full (offer bank0_read) a 0 (joined full bank0_read)
  -- a tick that leaves the controller as it was
  pub tick-stays : (a : CallAnswer) (word : ℕ) → Never begun tick a word begun
  -- one that is made twice
  pub tick_twice : (a : CallAnswer) (word : ℕ) → Never begun tick a word (tick_of (tick_of begun).after).after
  -- one that is accepted past the last clock
  pub tick-past_the_limit : (word : ℕ) (after : Controller) → Never last tick (Ok tt) word after
  -- one that gives DESL there
  pub tick-refused-desl : (a : CallAnswer) (after : Controller) → Never last tick a desl after
