-- A sheet's burst length is within bounds, and the counts turn by turn are those of the history.
use Rattle.std.proofs.Common.{le-leb, sym}
use Rattle.config.proofs.Accepted.{bl-bound}
use Rattle.counts.proofs.ByTurns.{counts-by-turns}
use Rattle.counts.proofs.count_commands.Goals as goal

pub counts_of-requires : goal.counts_of-requires
counts_of-requires c = (bl-bound c.args.config c.in_ok-timing.timing (sym c.in_ok-timing.ensures), c.if-words-gt65536.false)

pub returns : goal.returns
returns c =
    let short = le-leb _ 65536 c.if-words-gt65536.false in
    rw (c.counts_of.ensures, counts-by-turns c.in_ok-timing.timing, ← c.in_ok-timing.ensures, short)
