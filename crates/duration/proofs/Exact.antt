-- The theorem of specs/Exact: quotient and remainder by 1,000 are the two numbers of which the sentence holds.
use Prim.Native.Nat.{ℕ, ◌*◌, ◌/◌, ◌%◌, ◌<◌}
use mathlib.Core.Path.{◌≡◌, refl, ◌∙◌}
use native.Mathlib.Omega.{arith}
use borrow.Author.Tests.{leb-true, leb-false}
use lib.Dec.{leb}
use Rattle.basics.specs.Outcome.{value, refused}
use Rattle.basics.proofs.Outcomes.{require-value, value_not, require-fails}
use Rattle.config.specs.Configuration.{derived, timing_of}
use Rattle.config.specs.declared.Config.{Config}
use Rattle.config.proofs.Accepted.{behind, timing-is, behind-refusal, config-between}
use Rattle.duration.specs.declared.Duration.{Duration}
use Rattle.duration.specs.Duration.{in_nanoseconds, duration_of}
use Rattle.duration.specs.Exact.{Exact, Taken, Lengths}
use Rattle.duration.proofs.Ways.{long, lasting}

-- behind a 32 lie an accepted sheet, since no sheet is refused by that, and a test of the limit that fails
only-long : (c : Config) (n : ℕ) → duration_of c n ≡ refused 32 → (timing_of c ≡ value (derived c)) × (16777216 < n)
only-long c n e =
    let h = behind-refusal c _ (config-between c 32 (omega arith) (omega arith)) e in
    (h.0, leb-false n 16777216 (require-fails (leb n 16777216) _ (value_not 32 _) h.1))

module _ (c : Config) (n : ℕ) (d : Duration) where
  -- what lies behind an answer
  behind-answer : duration_of c n ≡ value d → Taken c n × (in_nanoseconds (n * c.period.0) ≡ d)
  behind-answer e =
      let g = behind c _ e in
      let l = require-value (leb n 16777216) _ _ g.1 in
      (record { sheet = timing-is c g.0; short = omega (arith, leb-true n 16777216 l.0) }, cc l.1)

  exact : duration_of c n ≡ value d → Exact c n d
  exact e =
      let p = n * c.period.0 in
      let is : in_nanoseconds p ≡ d = (behind-answer e).1 in
      rw (← is) (record { sum = omega arith; rest = omega arith })

  only : Taken c n → Exact c n d → duration_of c n ≡ value d
  only t e =
      let p = n * c.period.0 in
      let whole : p / 1000 ≡ d.whole.0 = omega arith in
      let rest : p % 1000 ≡ d.rest.0 = omega arith in
      lasting c n t.sheet (omega arith) ∙ rw (whole, rest)

pub lengths : Lengths
lengths =
    record {
      some = record { sheet = refl; short = omega arith };
      answers = λ c n t. (_, lasting c n t.sheet (omega arith));
      answered = λ c n d e. (behind-answer c n d e).0;
      exact = exact;
      only = only;
      long = λ c n e h. long c n e (omega arith);
      only-long = only-long;
    }
