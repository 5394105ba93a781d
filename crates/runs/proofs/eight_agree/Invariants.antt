-- As long as all agree, as many lead as were looked at.
use Rattle.std.proofs.Common.{◌≡◌, true, ◌≤◌, drop}
use Rattle.words.specs.Words.{words_of}
use Rattle.runs.specs.Runs.{leading}
use Rattle.runs.proofs.eight_agree.Given as goal

abbrev pub invariant-loop-count : goal.invariant-loop-count
invariant-loop-count l = l.all ≡ true → l.count ≤ leading l.upper.shift l.upper.top (drop l.at (words_of l.bytes))
