-- What is promised, theorem by theorem: the file to read first. Beside these stand the contracts, an equation for each call, which the code
-- is proved to meet; a theorem says what follows from them, for all sheets, all traces and all lists of calls. Each is a record of
-- sentences in the file that its `use` line names.
use Rattle.rules.specs.Turns.{Turns}
use Rattle.turns.specs.EveryTurn.{EveryTurn}
use Rattle.rules.specs.Kept.{Enough}
use Rattle.checker.specs.Refinement.{Refinement}
use Rattle.walks.specs.Walk.{Walk}
use Rattle.roundtrip.specs.RoundTrip.{RoundTrip}
use Rattle.former.specs.Former.{StillPasses}
use Rattle.relaxed.specs.Relaxed.{StillAccepted}
use Rattle.relaxed.specs.Dependence.{Monotone}
use Rattle.limits.specs.Within.{Within}
use Rattle.duration.specs.Exact.{Lengths}
use Rattle.model.specs.Demand3.{Demand3}
use Rattle.forms.specs.EitherForm.{EitherForm}
use Rattle.sheets.specs.Sheets.{Sheets}
use Rattle.distinct.specs.Distinct.{Distinct}
use Rattle.excluded.specs.Excluded.{Excluded}

pub record Promises : Type 0 where
  -- a trace is cut into pairs and single words in one way, and its pairs are those that the rules speak of (RULES 2.2)
  pub turns : Turns
  -- whoever goes through a trace turn by turn takes just these, and each turn starts with no pair open (RULES 9.2)
  pub every_turn : EveryTurn
  -- the few timestamps that are kept find every breach that the published rules find in the whole past (RULES 4)
  pub kept : Enough
  -- word by word the checker comes to the published verdict (RULES 5.4), and so does a walk over lent words (RULES 5.5)
  pub stepping : Refinement
  pub walk : Walk
  -- a pair that is written reads back, and the other way round but for the pins that are ignored (RULES 3.5)
  pub round_trip : RoundTrip
  -- what passed under the rules of before passes still (RULES 5.8)
  pub passed-before : StillPasses
  -- what is accepted on a sheet is accepted on a relaxed one, and what each rule reads of a sheet (RULES 5.6)
  pub relaxed : StillAccepted
  pub by-rule : Monotone
  -- a trace on every sheet between two (RULES 5.7)
  pub limits : Within
  -- the length of a trace in time is exact (RULES 1.7)
  pub lengths : Lengths
  -- demand 3: the controller's words are those laid down, they pass, and requests come out in order and in time (RULES 8.7); so for lists
  -- in which calls on a borrowed controller are mixed with the others (RULES 8.8)
  pub demand_3 : Demand3
  pub either-form : EitherForm
  -- a refused sheet is refused by the same number by every call (RULES 7.1)
  pub refused-sheets : Sheets
  -- no two answers of the exam site's number fall together (RULES 10.2)
  pub site-number : Distinct
  -- the wrong programs that the paper names would break a contract or demand 3
  pub excluded : Excluded
