-- The places from i on are 0, and so do not count.
use Rattle.std.proofs.Common.{◌≡◌}
use Rattle.rules.specs.Breaches.{deadline_by, deadline}
use Rattle.early.proofs.deadline.Given as goal

abbrev pub invariant-loop-i : goal.invariant-loop-i
invariant-loop-i l = deadline_by l.i l.refi l.refs ≡ deadline l.refi l.refs
