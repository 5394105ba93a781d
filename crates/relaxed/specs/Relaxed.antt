-- A setter relaxes a sheet and uses an old trace again: it is accepted still (RULES 5.6).
use Rattle.std.specs.Prelude.{ℕ, ◌≤◌, ◌≡◌, List}
use Rattle.basics.specs.Outcome.{value}
use Rattle.config.specs.Configuration.{derived, timing_of, wired_of}
use Rattle.config.specs.declared.Config.{Config}
use Rattle.rules.specs.Verdict.{accepted, check_of, check_bytes_of}
use Rattle.checker.specs.Steps.{fresh}
use Rattle.checker.specs.Refinement.{stepping}
use Rattle.walks.specs.Walk.{ended, walking}

-- two accepted sheets that agree in CL, BL, organisation, period and wiring; and the second, the slacker one, has none of the five counts
-- larger. The grade may differ.
pub record Relaxed (a b : Config) : Type 0 where
  pub first-accepted : timing_of a ≡ value (derived a)
  pub second-accepted : timing_of b ≡ value (derived b)
  pub cl : b.cl ≡ a.cl
  pub bl : b.bl ≡ a.bl
  pub organisation : b.organisation ≡ a.organisation
  pub period : b.period.0 ≡ a.period.0
  pub wiring : b.wiring ≡ a.wiring
  pub rbd : b.rbd.0 ≤ a.rbd.0
  pub rwd : b.rwd.0 ≤ a.rwd.0
  pub wrd : b.wrd.0 ≤ a.wrd.0
  pub rsc : b.rsc.0 ≤ a.rsc.0
  pub refc : b.refc.0 ≤ a.refc.0

-- the theorem: every trace that is accepted on the first is accepted on the second
pub record StillAccepted : Type 0 where
  -- there are such sheets: here each count is smaller, and the grade is another
  pub some : Relaxed (wired_of 37 5 4 16 5000 3 3 2 7 19 8) (wired_of 50 5 4 16 5000 2 2 1 6 18 8)
  -- by the whole check; a trace that is too long is accepted on neither
  pub check : (a b : Config) (words : List ℕ) → Relaxed a b → check_of a words ≡ value accepted → check_of b words ≡ value accepted
  -- by the whole check of bytes
  pub check-bytes : (a b : Config) (bytes : List ℕ) → Relaxed a b
      → check_bytes_of a bytes ≡ value accepted → check_bytes_of b bytes ≡ value accepted
  -- by stepping from a fresh checker
  pub steps : (a b : Config) (words : List ℕ) → Relaxed a b
      → stepping (fresh a) words ≡ value accepted → stepping (fresh b) words ≡ value accepted
  -- by a fresh walk, of n advances, which comes to the end of its words
  pub walk : (a b : Config) (words : List ℕ) (n : ℕ) → Relaxed a b
      → walking n (fresh a) words ≡ value ended → walking n (fresh b) words ≡ value ended
