-- The theorem of specs/Excluded, record by record.
use Rattle.excluded.specs.Excluded.{Excluded}
use Rattle.excluded.proofs.Controllers.{controllers}
use Rattle.excluded.proofs.Examiners.{examiners}
use Rattle.excluded.proofs.Tallies.{tallies}
use Rattle.excluded.proofs.Walks.{walks}
use Rattle.excluded.proofs.Calls.{calls}
use Rattle.excluded.proofs.Cursors.{cursors}
use Rattle.excluded.proofs.Answers.{answers}

pub excluded : Excluded
excluded =
    record {
      controllers = controllers;
      examiners = examiners;
      tallies = tallies;
      walks = walks;
      answers = answers;
      calls = calls;
      cursors = cursors;
    }
