-- What is left of the walk gives what the whole of it gives.
use Rattle.std.proofs.Common.{◌≡◌, ◌-◌}
use Rattle.bulk.specs.Walks.{walk_from}
use Rattle.bulk.proofs.walk.walk_from.Given as goal

abbrev pub invariant-loop : goal.invariant-loop
invariant-loop l = walk_from (l.fn.most - l.counter) l.now l.words ≡ walk_from l.fn.most l.fn.checker l.words
