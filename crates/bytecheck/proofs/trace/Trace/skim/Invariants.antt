-- Each turn passes DESL words or a sleep, and then reads and writes, with gaps and without. Only the first may pass nothing.
use Rattle.std.proofs.Common.{◌+◌, ◌-◌, ◌*◌, ◌/◌, not, length}
use Rattle.command.specs.Pins.{level}
use Rattle.words.specs.Words.{words_of}
use Rattle.bytecheck.proofs.Access.{Going}
use Rattle.bytecheck.proofs.trace.Trace.skim.Given as goal

abbrev pub invariant-loop-tried : goal.invariant-loop-tried
invariant-loop-tried l = Going l.self.timing (words_of l.self.bytes.now) l.end l.initial.track l.track

abbrev pub decreases-loop-tried : goal.decreases-loop-tried
decreases-loop-tried l = 2 * (length l.self.bytes.now / 4 - l.track.clock) + level (not l.tried)
