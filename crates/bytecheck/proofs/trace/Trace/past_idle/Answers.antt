-- DESL words, where the word at the clock is one.
use Rattle.bytecheck.proofs.Passing.{desl_quiet}
use Rattle.bytecheck.proofs.trace.Trace.past_idle.Goals as goal

pub returns-then-word-eq3 : goal.returns-then-word-eq3
returns-then-word-eq3 c = (c.past_run.ensures.0, c.past_run.ensures.1 0xC0000 desl_quiet c.args.self.timing c.args.stamps)
