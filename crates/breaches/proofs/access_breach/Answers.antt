-- The tests that only an MRS or REF can meet are false at a LAL word.
use Rattle.std.proofs.Common.{◌∙◌}
use Rattle.breaches.proofs.ByKind.{at-lal}
use Rattle.breaches.proofs.FirstOf.{of_access}
use Rattle.breaches.proofs.access_breach.Goals as goal

pub returns : goal.returns
returns c =
    let kept = c.args.kept in
    let figures = c.figures-figures.ensures in
    let clock = c.from-clock.ensures in
    rw (
      c.or-5.ensures,
      c.or-4.ensures,
      c.or-3.ensures,
      c.or-2.ensures,
      c.or.ensures,
      c.then_some.ensures,
      c.then_some-2.ensures,
      c.then_some-3.ensures,
      c.then_some-4.ensures,
      c.then_some-5.ensures,
      c.then_some-6.ensures,
    )
    (of_access _ _ _ _ _ _
    ∙ at-lal c.args.timing kept.stamps kept.clock kept.met c.args.word c.requires
    c.lane_reserved-reserved.ensures
    c.unready-unready.ensures
    (rw (clock, c.bank-bank.ensures.0, figures) at c.near-same_bank.ensures)
    c.too_close-too_close.ensures
    (rw (clock, figures) at c.near-after_mode.ensures)
    (rw (clock, figures) at c.near-after_refresh.ensures))
