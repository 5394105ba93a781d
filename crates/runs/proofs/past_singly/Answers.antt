use Rattle.std.proofs.Common.{◌<◌, arith, length}
use Rattle.words.specs.Words.{words_of}
use Rattle.words.proofs.Listed.{words-length}
use Rattle.runs.proofs.Lead.{lead-on, lead_off}
use Rattle.runs.proofs.past_singly.Goals as goal

pub returns-then-not-agrees : goal.returns-then-not-agrees
returns-then-not-agrees c =
    let a = c.args in
    let at = c.loop-at.at in
    let inside : at < length (words_of a.bytes.now) = rw (words-length a.bytes.now) (omega arith) in
    omega (arith, lead_off a.upper.shift a.upper.top (words_of a.bytes.now) at inside c.agrees.ensures c.if-not-agrees.true)

pub loop-at-preserved : goal.loop-at-preserved
loop-at-preserved c =
    let a = c.args in
    let at = c.loop-at.at in
    let inside : at < length (words_of a.bytes.now) = rw (words-length a.bytes.now) (omega arith) in
    omega (arith, lead-on a.upper.shift a.upper.top (words_of a.bytes.now) at inside c.agrees.ensures c.if-not-agrees.false)
