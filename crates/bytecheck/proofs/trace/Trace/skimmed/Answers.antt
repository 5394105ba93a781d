use Rattle.bytecheck.specs.Passed.{none}
use Rattle.bytecheck.proofs.trace.Trace.skimmed.Goals as goal

pub returns : goal.returns
returns c = none
