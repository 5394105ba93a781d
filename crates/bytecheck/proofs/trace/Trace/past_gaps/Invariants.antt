-- Each turn passes DESL words, and the two words of a read or write.
use Rattle.std.proofs.Common.{◌+◌, ◌-◌}
use Rattle.words.specs.Words.{words_of}
use Rattle.bytecheck.proofs.Access.{Going}
use Rattle.bytecheck.proofs.Turns.{Marking}
use Rattle.bytecheck.proofs.trace.Trace.past_gaps.Given as goal

abbrev pub invariant-loop-marks : goal.invariant-loop-marks
invariant-loop-marks l =
    Marking (words_of l.self.bytes.now) l.stop l.track.clock l.marks
    × Going l.self.timing (words_of l.self.bytes.now) l.end l.fn.from
    l.track

abbrev pub decreases-loop-marks : goal.decreases-loop-marks
decreases-loop-marks l = l.stop + 2 - l.track.clock

abbrev pub invariant-loop-track : goal.invariant-loop-track
invariant-loop-track l =
    Going l.self.timing (words_of l.self.bytes.now) l.end l.fn.from
    l.track

abbrev pub decreases-loop-track : goal.decreases-loop-track
decreases-loop-track l = l.end - l.track.clock
