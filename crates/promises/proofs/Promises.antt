-- Each by its own theorem.
use Rattle.rules.proofs.Turns.{turns}
use Rattle.turns.proofs.EveryTurn.{every_turn}
use Rattle.rules.proofs.Kept.{enough}
use Rattle.checker.proofs.Refinement.{refinement}
use Rattle.walks.proofs.Walk.{walk}
use Rattle.roundtrip.proofs.RoundTrip.{round_trip}
use Rattle.former.proofs.Former.{still_passes}
use Rattle.relaxed.proofs.Relaxed.{still_accepted}
use Rattle.relaxed.proofs.Monotone.{monotone}
use Rattle.limits.proofs.Within.{within}
use Rattle.duration.proofs.Exact.{lengths}
use Rattle.model.proofs.Demand3.{demand_3}
use Rattle.forms.proofs.EitherForm.{either-form}
use Rattle.sheets.proofs.Sheets.{sheets}
use Rattle.distinct.proofs.Distinct.{distinct}
use Rattle.excluded.proofs.Excluded.{excluded}
use Rattle.promises.specs.Promises.{Promises}

pub promises : Promises
promises =
    record {
      turns = turns;
      every_turn = every_turn;
      kept = enough;
      stepping = refinement;
      walk = walk;
      round_trip = round_trip;
      passed-before = still_passes;
      relaxed = still_accepted;
      by-rule = monotone;
      limits = within;
      lengths = lengths;
      demand_3 = demand_3;
      either-form = either-form;
      refused-sheets = sheets;
      site-number = distinct;
      excluded = excluded;
    }
