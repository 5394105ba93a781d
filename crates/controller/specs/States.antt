-- The states of a controller.
use Rattle.std.specs.Prelude.{replicate}
use Rattle.config.specs.declared.Config.{Config}
use Rattle.stamps.specs.Stamps.{never}
use Rattle.queue.specs.Queue.{vacant}
use Rattle.scheduler.specs.declared.OpenPair.TheVariants.{Nothing}
use Rattle.controller.specs.declared.Controller.{Controller}

-- a fresh controller (RULES 8.1): clock 0, no pair open, no event, and nothing waits
abbrev pub fresh : Config → Controller
fresh c = record { config = c; clock = 0; opened = Nothing; stamps = never; waiting = replicate 16 vacant; count = 0 }
