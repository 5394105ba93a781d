-- A turn is a lemma of `Counting`.
use Rattle.std.proofs.Common.{◌∙◌, ◌+◌, ap, get_or, set, take, arith}
use Rattle.queue.specs.Queue.{vacant}
use Rattle.queue.proofs.Counting.{counts-one, counts-none}
use Rattle.queue.proofs.totals.totals_of.Goals as goal
use Rattle.queue.proofs.totals.totals_of.Goals.{then-bank-lt8, else-bank-lt8}

pub loop-request-preserved : goal.loop-request-preserved
loop-request-preserved c =
    let l = c.loop-request in
    let w = take c.min.result c.args.waiting in
    let b = (get_or w l.request-index vacant).bank in
    elim c.if-bank-lt8.branch [
      | then-bank-lt8 x ↦
          x.totals-is ∙ ap (λ ts. set ts b (get_or ts b 0 + 1)) l.invariant ∙ counts-one w l.request-index (omega arith) (omega arith)
      | else-bank-lt8 x ↦ x.totals-is ∙ l.invariant ∙ counts-none w l.request-index (omega arith) (omega arith)
    ]
