use Rattle.std.proofs.Common.{◌+◌, ◌/◌, ◌%◌, ◌^◌, ◌≤◌, ◌<◌, ◌∙◌, ap, length, arith}
use Rattle.config.specs.declared.figures.Figures.{Figures}
use Rattle.command.specs.Address.{bank_of}
use Rattle.words.proofs.Listed.{words-length, pair-listed}
use Rattle.bytecheck.specs.Passed.{none}
use Rattle.bytecheck.proofs.Access.{goes_on}
use Rattle.bytecheck.proofs.trace.Trace.past_pairs.Goals as goal

pub loop-track-init : goal.loop-track-init
loop-track-init c = record { tracked = c.requires.1; passed = none }

pub loop-track-preserved : goal.loop-track-preserved
loop-track-preserved c =
    let l = c.loop-track in
    let bytes = c.args.self.bytes.now in
    let short : length bytes / 4 ≤ 16777216 = c.args.self.short in
    let fits : c.args.end ≤ length bytes / 4 = c.requires.0 in
    let listed : l.track.clock + 1 < length bytes / 4 = omega arith in
    goes_on l.invariant c.loop-track-test.true (rw (words-length bytes) fits) (omega arith) c.pair_to-pair.result
    (pair-listed bytes l.track.clock c.pair_to-pair.ensures listed)
    (c.bank-bank.ensures.0 ∙ ap (λ (f : Figures). bank_of f.four (c.pair_to-pair.result % 2 ^ 32)) c.figures.ensures)
    (rw c.of-limits.ensures.0 at c.clear.ensures c.if-not-clear.false)
