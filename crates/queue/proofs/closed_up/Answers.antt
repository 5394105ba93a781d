-- What was copied, with the vacant place behind it, is a lemma of `Closing`.
use Rattle.std.proofs.Common.{arith}
use Rattle.queue.specs.Queue.{vacant}
use Rattle.queue.proofs.Closing.{closed}
use Rattle.queue.proofs.closed_up.Goals as goal

pub returns-then-at-counted : goal.returns-then-at-counted
returns-then-at-counted c =
    rw c.copy_within.ensures.after (closed vacant c.args.waiting c.args.place c.args.count c.min-counted.result (omega arith) (omega arith))
