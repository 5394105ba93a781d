-- The invariant: no pair is open, and with the turns that are left the counts come to those of all.
use Rattle.std.proofs.Common.{◌-◌, length}
use Rattle.counts.proofs.Tallying.{Tallying}
use Rattle.counts.proofs.counts_of.Given as goal

abbrev pub invariant-loop-taken : goal.invariant-loop-taken
invariant-loop-taken l = Tallying l.timing l.words l.at l.counts

abbrev pub decreases-loop-taken : goal.decreases-loop-taken
decreases-loop-taken l = length l.words - l.at
