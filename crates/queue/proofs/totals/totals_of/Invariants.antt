-- The totals are those of the requests before the turn's.
use Rattle.std.proofs.Common.{◌≡◌, take}
use Rattle.queue.specs.Totals.{totals_of}
use Rattle.queue.proofs.totals.totals_of.Given as goal

abbrev pub invariant-loop-request : goal.invariant-loop-request
invariant-loop-request l = l.totals ≡ totals_of (take l.request-index l.request-items)
