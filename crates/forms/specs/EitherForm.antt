-- Lists of calls in which each is made by value or on a borrowed controller (RULES 8.8).
use Rattle.std.specs.Prelude.{ℕ, ◌≡◌, Ok, List, [], ◌∷◌, ◌++◌, map, length}
use Rattle.basics.specs.Outcome.{value}
use Rattle.config.specs.Configuration.{timing_of, institute}
use Rattle.config.specs.declared.Config.{Config}
use Rattle.config.specs.declared.Timing.{Timing}
use Rattle.controller.specs.States.{fresh}
use Rattle.controller.specs.Steps.{held, CallAnswer, call_outcome, offered, ticked, offer_of, tick_of}
use Rattle.model.specs.Runs.{Call, offer, tick, Accepted, Run, if_accepted}
use Rattle.model.specs.Demand3.{Holds}
use Rattle.model.specs.Traces.{bank0_read}
use Rattle.controller.specs.declared.Controller.{Controller}
use Rattle.borrowed.specs.Promised.{OfferPromised, TickPromised}

-- how a call is made
pub data Form : Type 0 where
  by_value : Form
  borrowed : Form

-- a call that was made: its answer, a tick's word (of an offer it is not looked at), and the controller afterwards
pub record Made : Type 0 where
  pub form : Form
  pub call : Call
  pub answer : CallAnswer
  pub word : ℕ
  pub after : Controller

-- what the contract of its form says of a call on a controller s
abbrev pub Promised : Form → Controller → Call → CallAnswer → ℕ → Controller → Type 0
Promised by_value s (offer q) answer word after = offered (record { answer = answer; controller = after }) ≡ offer_of s q
Promised by_value s tick answer word after = ticked (record { answer = answer; word = word; controller = after }) ≡ tick_of s
Promised borrowed s (offer q) answer word after = OfferPromised s q answer after
Promised borrowed s tick answer word after = TickPromised s answer word after

-- each call is made on the controller that the last one handed back, or left behind the borrow
abbrev pub MadeFrom : Controller → List Made → Type 0
MadeFrom s [] = Unit {0}
MadeFrom s (m ∷ ms) = Promised m.form s m.call m.answer m.word m.after × MadeFrom m.after ms

-- what one call adds, by its answer alone
abbrev pub collected : Call → CallAnswer → ℕ → Controller → Run → Run
collected (offer q) answer word after r =
    let a : Accepted = record { request = q; ticks = length r.words; ahead = length (held r.controller) } in
    record { words = r.words; accepted = r.accepted ++ if_accepted (call_outcome answer) a; controller = after }
collected tick answer word after r =
    record { words = r.words ++ if_accepted (call_outcome answer) word; accepted = r.accepted; controller = after }

-- what a list of calls adds
abbrev pub collect_from : Run → List Made → Run
collect_from r [] = r
collect_from r (m ∷ ms) = collect_from (collected m.call m.answer m.word m.after r) ms

-- the calls from a fresh controller
abbrev pub collect : Config → List Made → Run
collect c ms = collect_from (record { words = []; accepted = []; controller = fresh c }) ms

-- on sheet E an offer on a borrowed controller, and two ticks on what it leaves, by value and again on a borrowed one: both words of the
-- extended mode are given
abbrev pub mixed : List Made
mixed =
    let offered = (offer_of (fresh institute) bank0_read).after in
    let ticked = (tick_of offered).after in
    record { form = borrowed; call = offer bank0_read; answer = Ok tt; word = 0; after = offered }
    ∷ record { form = by_value; call = tick; answer = Ok tt; word = 0xA0000; after = ticked }
    ∷ record { form = borrowed; call = tick; answer = Ok tt; word = 0x84000; after = (tick_of ticked).after }
    ∷ []

-- the theorem: demand 3 holds of such lists too
pub record EitherForm : Type 0 where
  -- there are such lists, in which both forms stand
  pub some : MadeFrom (fresh institute) mixed
  -- for every accepted sheet and every list
  pub holds : (c : Config) (t : Timing) → timing_of c ≡ value t → (ms : List Made) → MadeFrom (fresh c) ms
      → Holds t (map (λ m. m.call) ms) (collect c ms)
