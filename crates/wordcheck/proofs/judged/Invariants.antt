-- The verdict on the whole trace is that of a run over what is kept, from the clock on.
use Rattle.std.proofs.Common.{◌≡◌, drop}
use Rattle.rules.specs.Verdict.{judge}
use Rattle.rules.proofs.Words.{run}
use Rattle.wordcheck.proofs.judged.Given as goal

abbrev pub invariant-loop-word : goal.invariant-loop-word
invariant-loop-word l =
    (l.kept.clock ≡ l.word-index)
    × (judge l.timing l.words ≡ run l.timing l.kept.stamps l.kept.clock l.kept.met (drop l.kept.clock l.words))
