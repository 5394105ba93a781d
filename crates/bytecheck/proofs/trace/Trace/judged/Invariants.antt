-- The judgement of the whole trace is that from the place reached; the words skimmed do not change it.
use Rattle.std.proofs.Common.{◌≡◌, ◌-◌, ◌/◌, length}
use Rattle.words.specs.Words.{words_of}
use Rattle.rules.specs.Verdict.{judge}
use Rattle.bytecheck.proofs.Passing.{run_from}
use Rattle.bytecheck.proofs.trace.Trace.judged.Given as goal

abbrev pub invariant-loop-kept : goal.invariant-loop-kept
invariant-loop-kept l = judge l.self.timing (words_of l.self.bytes.now) ≡ run_from l.self.timing (words_of l.self.bytes.now) l.kept

abbrev pub decreases-loop-kept : goal.decreases-loop-kept
decreases-loop-kept l = length l.self.bytes.now / 4 - l.kept.clock
