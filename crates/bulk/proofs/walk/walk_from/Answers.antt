-- Each turn by what its advance gave.
use Rattle.std.proofs.Common.{sym, ◌∙◌}
use Rattle.bulk.proofs.Turns.{stops, leads}
use Rattle.bulk.proofs.walk.walk_from.Goals as goal

pub returns-then-not-passes : goal.returns-then-not-passes
returns-then-not-passes c =
    let l = c.loop in
    let r = c.advance_through-moved in
    sym (stops l.now _ _ (sym r.ensures) _ l.counter c.loop-test.true (sym c.passes.ensures ∙ c.if-not-passes.true)) ∙ l.invariant

pub loop-preserved : goal.loop-preserved
loop-preserved c =
    let l = c.loop in
    let r = c.advance_through-moved in
    sym (leads l.now _ _ (sym r.ensures) _ l.counter c.loop-test.true (sym c.passes.ensures ∙ c.if-not-passes.false)) ∙ l.invariant
