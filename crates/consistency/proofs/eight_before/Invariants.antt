-- The events so far are before the clock, or one of them is not.
use Rattle.std.proofs.Common.{◌≡◌, take}
use Rattle.std.specs.List.{list_all}
use Rattle.consistency.specs.Consistency.{before}
use Rattle.consistency.proofs.eight_before.Given as goal

abbrev pub invariant-loop-event : goal.invariant-loop-event
invariant-loop-event l = l.all ≡ list_all (before l.clock) (take l.event-index l.event-items)
