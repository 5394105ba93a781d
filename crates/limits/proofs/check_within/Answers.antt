-- What both sheets come to, by the first one's case.
use Rattle.std.proofs.Common.{◌∙◌, rules}
use Rattle.limits.proofs.Both.{by_both}
use Rattle.limits.proofs.check_within.Goals as goal

pub returns-in_err-found : goal.returns-in_err-found
returns-in_err-found c =
    let both = by_both c.args.least c.args.greatest c.args.words.now c.in_ok-timing.ensures c.in_ok-timing-2.ensures
    (rw (← c.alike.ensures, ← c.nowhere_above.ensures) c.if-not-alike-nowhere_above.false)
    c.in_err-found.ensures in
    search (rules, both)

pub returns-in-None : goal.returns-in-None
returns-in-None c =
    c.on_sheet-in-None.ensures
    ∙ by_both c.args.least c.args.greatest c.args.words.now c.in_ok-timing.ensures c.in_ok-timing-2.ensures
    (rw (← c.alike.ensures, ← c.nowhere_above.ensures) c.if-not-alike-nowhere_above.false)
    (rw c.in-None.is at c.in_ok-found.ensures)
