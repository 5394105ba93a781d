-- Refused sheets: every call that tests one refuses it as `Config::timing` does, and changes nothing; which sheets 33 and 34 are for; and a
-- sheet without its wiring has eight banks.
use Rattle.std.specs.Prelude.{ℕ, ◌<◌, ◌≡◌, true, List}
use Rattle.basics.specs.Outcome.{value, refused}
use Rattle.config.specs.Configuration.{part_fits, wiring_fits, period_fits, counts_fit, timing_of, institute, config_of}
use Rattle.config.specs.declared.Config.{Config}
use Rattle.config.specs.declared.Timing.{Timing}
use Rattle.command.specs.declared.operation.Operation.{Operation}
use Rattle.command.specs.declared.operation.Pair.{Pair}
use Rattle.command.specs.declared.operation.Request.{Request}
use Rattle.reading.specs.Reading.{read_pair}
use Rattle.writing.specs.Writing.{write_pair}
use Rattle.rules.specs.Verdict.{check_of, check_bytes_of}
use Rattle.limits.specs.Limits.{within_of}
use Rattle.duration.specs.Duration.{duration_of}
use Rattle.counts.specs.Counts.{no_counts, counting_of}
use Rattle.fcram.specs.Number.{number_of}
use Rattle.checker.specs.Steps.{refusing, step_of}
use Rattle.checker.specs.declared.checker.Checker.{Checker}
use Rattle.walks.specs.Walk.{staying, move_of}
use Rattle.controller.specs.Steps.{not_offered, not_ticked, offer_of, tick_of}
use Rattle.controller.specs.declared.Controller.{Controller}

-- no number before 33 applies, CL is 4 and REFC is below 18 (RULES 6.33)
pub record ShortRefresh (c : Config) : Type 0 where
  pub part : part_fits c ≡ true
  pub wiring : wiring_fits c ≡ true
  pub period : period_fits c ≡ true
  pub counts : counts_fit c ≡ true
  pub cl : c.cl ≡ 4
  pub refc : c.refc.0 < 18

-- no number before 34 applies, and the wiring is neither 4 nor 8 (RULES 6.34)
pub record OtherWiring (c : Config) : Type 0 where
  pub part : part_fits c ≡ true
  pub four : c.wiring ≡ 4 → ⊥
  pub eight : c.wiring ≡ 8 → ⊥

-- the sheet is refused by n by every call that tests one, handed over or inside a state, whatever else is there; the state stays
pub record RefusedBy (n : ℕ) (c : Config) : Type 0 where
  pub read : (p : Pair) → read_pair c p ≡ refused n
  pub write : (o : Operation) → write_pair c o ≡ refused n
  pub check : (words : List ℕ) → check_of c words ≡ refused n
  pub check-bytes : (bytes : List ℕ) → check_bytes_of c bytes ≡ refused n
  -- the exam site's number
  pub site : (bytes : List ℕ) → number_of (check_bytes_of c bytes) ≡ n
  -- as the least sheet of two, and as the greatest if the least is accepted
  pub within : (b : Config) (words : List ℕ) → within_of c b words ≡ refused n
  pub within-second : (a : Config) (t : Timing) (words : List ℕ) → timing_of a ≡ value t → within_of a c words ≡ refused n
  pub duration : (count : ℕ) → duration_of c count ≡ refused n
  -- with counts that are all 0
  pub count : (words : List ℕ) → counting_of c words ≡ record { number = n; counts = no_counts }
  pub step : (s : Checker) (w : ℕ) → s.config ≡ c → step_of s w ≡ refusing s n
  pub advance : (s : Checker) (words : List ℕ) → s.config ≡ c → move_of s words ≡ staying s (refused n)
  -- these two by value and on a borrowed controller: both contracts cite them
  pub offer : (s : Controller) (q : Request) → s.config ≡ c → offer_of s q ≡ not_offered s n
  pub tick : (s : Controller) → s.config ≡ c → tick_of s ≡ not_ticked s n

-- the theorem
pub record Sheets : Type 0 where
  -- no sheet with CL 4 and REFC below 18 is accepted, whatever else it has (RULES 1.5)
  pub never-accepted : (c : Config) (t : Timing) → c.cl ≡ 4 → c.refc.0 < 18 → timing_of c ≡ value t → ⊥
  -- 33 is for the sheets of that sort that no earlier number applies to, and for no other
  pub short : (c : Config) → ShortRefresh c → timing_of c ≡ refused 33
  pub only-short : (c : Config) → timing_of c ≡ refused 33 → ShortRefresh c
  -- no sheet with another wiring than 4 and 8 is accepted, and 34 is for those that 20 is not for (RULES 1.6)
  pub never_other_wiring : (c : Config) (t : Timing) → timing_of c ≡ value t → (c.wiring ≡ 4 → ⊥) → (c.wiring ≡ 8 → ⊥) → ⊥
  pub other_wiring : (c : Config) → OtherWiring c → timing_of c ≡ refused 34
  pub only_other_wiring : (c : Config) → timing_of c ≡ refused 34 → OtherWiring c
  -- a sheet of ten numbers, without its wiring, has eight banks, and sheet E is one
  pub institute-is : institute ≡ config_of 37 4 4 16 5000 2 3 1 7 18
  pub ten_have_eight : (grade cl bl organisation period rbd rwd wrd rsc refc : ℕ)
      → (config_of grade cl bl organisation period rbd rwd wrd rsc refc).wiring ≡ 8
  -- by whatever number a sheet is refused
  pub everywhere : (c : Config) (n : ℕ) → timing_of c ≡ refused n → RefusedBy n c
