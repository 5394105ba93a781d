-- What the answer says of the turns that are left keeps the invariant; where no word is left, no turn is.
use Rattle.turns.proofs.Answered.{answered}
use Rattle.counts.proofs.Tallying.{goes_on}
use Rattle.counts.proofs.counts_of.Goals as goal

pub loop-taken-preserved-in-Closed : goal.loop-taken-preserved-in-Closed
loop-taken-preserved-in-Closed c =
    let y = c.loop-taken.invariant in
    let taken = rw c.in-Closed.is at c.in-Some.ensures in
    goes_on y (answered c.args.words.now c.loop-taken.at _ y.inside taken) c.with_pair-counts.ensures

pub loop-taken-preserved : goal.loop-taken-preserved
loop-taken-preserved c =
    let y = c.loop-taken.invariant in
    let taken = rw c.in-Single.is at c.in-Some.ensures in
    goes_on y (answered c.args.words.now c.loop-taken.at _ y.inside taken) c.with_single-counts.ensures
