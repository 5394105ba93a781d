-- Each turn passes eight words, and the run ends where it did.
use Rattle.std.proofs.Common.{◌≡◌, ◌-◌, ◌≤◌}
use Rattle.words.specs.Words.{words_of}
use Rattle.runs.specs.Runs.{run_end}
use Rattle.runs.proofs.past_eights.Given as goal

abbrev pub invariant-loop-at : goal.invariant-loop-at
invariant-loop-at l =
    (l.at ≤ l.stop)
    × (run_end l.upper.shift l.upper.top l.stop (words_of l.bytes) l.at
    ≡ run_end l.upper.shift l.upper.top l.stop (words_of l.bytes) l.from)

abbrev pub decreases-loop-at : goal.decreases-loop-at
decreases-loop-at l = l.stop - l.at
