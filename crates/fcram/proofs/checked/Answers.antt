-- The verdict is the published one, and small.
use Rattle.fcram.proofs.Bounded.{answer-small}
use Rattle.fcram.proofs.checked.Goals as goal

pub number-requires : goal.number-requires
number-requires c = rw c.check_bytes.ensures (answer-small c.args.config c.args.trace.now)
