-- The requests that wait: whether they fit, and which is at a place (RULES 8.2).
use Rattle.std.specs.Prelude.{ℕ, Bool, false, List, get_or}
use Rattle.std.specs.List.{list_all}
use Rattle.config.specs.declared.Timing.{Timing}
use Rattle.writing.specs.Writing.{request_fits}
use Rattle.command.specs.declared.operation.Request.{Request}

-- a place where no request waits
abbrev pub vacant : Request
vacant = record { write = false; bank = 0; row = 0; column = 0; lower = 0; upper = 0 }

-- every field of these requests is in its range
abbrev pub all_fit : Timing → List Request → Bool
all_fit t rs = list_all (request_fits t) rs

-- the request at a place; a vacant one where there is no such place
abbrev pub request_at : ℕ → List Request → Request
request_at p rs = get_or rs p vacant
