-- Each power's digit comes before the digits of the later ones.
use Rattle.std.proofs.Common.{◌∙◌, arith}
use Rattle.line.proofs.Digits.{shown-more, hidden-more}
use Rattle.line.proofs.Line.number.Goals as goal
use Rattle.line.proofs.Line.number.Goals.{then-power-n, else-power-n}

pub loop-power-preserved : goal.loop-power-preserved
loop-power-preserved c =
    let l = c.loop-power in
    let n = c.args.n in
    elim c.if-power-n.branch [
      | then-power-n w ↦
          rw (w.line-is, w.push-line.ensures) (shown-more l.line n l.power-index (omega arith) w.if-power-n.true ∙ l.invariant)
      | else-power-n w ↦ rw w.line-is (hidden-more l.line n l.power-index (omega arith) (omega arith) ∙ l.invariant)
    ]
