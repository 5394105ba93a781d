-- What the calls on a borrowed controller promise (RULES 8.8).
use Rattle.std.specs.Prelude.{ℕ, ◌≡◌}
use Rattle.command.specs.declared.operation.Request.{Request}
use Rattle.controller.specs.Steps.{CallAnswer, call_outcome, offer_of, tick_of}
use Rattle.controller.specs.declared.Controller.{Controller}

-- what the contract of `offer` on a borrowed controller says: s stands behind the borrow before the call, and after it `after`
abbrev pub OfferPromised : Controller → Request → CallAnswer → Controller → Type 0
OfferPromised s q answer after = record { outcome = call_outcome answer; after = after } ≡ offer_of s q

-- what that of `tick` says
abbrev pub TickPromised : Controller → CallAnswer → ℕ → Controller → Type 0
TickPromised s answer word after = record { outcome = call_outcome answer; word = word; after = after } ≡ tick_of s
