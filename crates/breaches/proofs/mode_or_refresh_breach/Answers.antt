-- The tests that only a read or write can meet are false at an MRS or REF word.
use Rattle.std.proofs.Common.{◌∙◌}
use Rattle.breaches.proofs.ByKind.{at_other}
use Rattle.breaches.proofs.FirstOf.{of_other}
use Rattle.breaches.proofs.mode_or_refresh_breach.Goals as goal

pub returns : goal.returns
returns c =
    let kept = c.args.kept in
    let figures = c.figures-figures.ensures in
    let clock = c.from-clock.ensures in
    rw (
      c.or-4.ensures,
      c.or-3.ensures,
      c.or-2.ensures,
      c.or.ensures,
      c.then_some.ensures,
      c.then_some-2.ensures,
      c.then_some-3.ensures,
      c.then_some-4.ensures,
      c.then_some-5.ensures,
      c.high-rda.ensures,
    )
    (of_other _ _ _ _ _
    ∙ at_other c.args.timing kept.stamps kept.clock kept.met c.args.word c.requires
    c.mode_wrong-wrong.ensures
    (rw (clock, figures) at c.near-after_mode.ensures)
    (rw (clock, figures) at c.near-after_refresh.ensures)
    c.busy-busy.ensures
    (rw (clock, figures) at c.near-in_window.ensures))
