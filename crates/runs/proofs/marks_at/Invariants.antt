-- Each turn marks one word.
use Rattle.std.proofs.Common.{◌≡◌}
use Rattle.words.specs.Words.{words_of}
use Rattle.runs.specs.Runs.{marks}
use Rattle.runs.proofs.marks_at.Given as goal

abbrev pub invariant-loop-count : goal.invariant-loop-count
invariant-loop-count g l = l.marks ≡ marks l.upper.shift l.upper.top (words_of l.bytes) l.at l.count
