use Rattle.std.proofs.Common.{◌∙◌, arith}
use Rattle.words.specs.Words.{words_of}
use Rattle.runs.proofs.Lead.{run_past}
use Rattle.runs.proofs.past_eights.Goals as goal

pub loop-at-preserved : goal.loop-at-preserved
loop-at-preserved c =
    let l = c.loop-at in
    let a = c.args in
    let eight = c.eight_agree.ensures c.if-not-eight_agree.false in
    (omega arith, run_past a.upper.shift a.upper.top (words_of a.bytes.now) 8 l.at a.stop eight (omega arith) ∙ l.invariant.1)
