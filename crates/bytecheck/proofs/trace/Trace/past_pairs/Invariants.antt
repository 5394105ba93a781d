-- Each turn passes the two words of a read or write.
use Rattle.std.proofs.Common.{◌-◌}
use Rattle.words.specs.Words.{words_of}
use Rattle.bytecheck.proofs.Access.{Going}
use Rattle.bytecheck.proofs.trace.Trace.past_pairs.Given as goal

abbrev pub invariant-loop-track : goal.invariant-loop-track
invariant-loop-track l =
    Going l.self.timing (words_of l.self.bytes.now) l.end l.fn.from
    l.track

abbrev pub decreases-loop-track : goal.decreases-loop-track
decreases-loop-track l = l.end - l.track.clock
