-- The sentence of RULES 1.7, and that it fixes the answer. The sheet's own refusals are in Sheets of `sheets`.
use Rattle.std.specs.Prelude.{ℕ, ◌+◌, ◌*◌, ◌≤◌, ◌<◌, ◌≡◌}
use Rattle.basics.specs.Numbers.{limit}
use Rattle.basics.specs.Outcome.{value, refused}
use Rattle.config.specs.Configuration.{derived, timing_of, institute}
use Rattle.config.specs.declared.Config.{Config}
use Rattle.duration.specs.declared.Duration.{Duration}
use Rattle.duration.specs.Duration.{duration_of}

-- nanoseconds times 1,000 plus the rest equals count times period, and the rest is below 1,000
pub record Exact (c : Config) (n : ℕ) (d : Duration) : Type 0 where
  pub sum : d.whole.0 * 1000 + d.rest.0 ≡ n * c.period.0
  pub rest : d.rest.0 < 1000

-- what the call takes: an accepted sheet, and at most 16,777,216 words
pub record Taken (c : Config) (n : ℕ) : Type 0 where
  pub sheet : timing_of c ≡ value (derived c)
  pub short : n ≤ limit

-- the theorem
pub record Lengths : Type 0 where
  -- the longest trace, on sheet E, is taken
  pub some : Taken institute limit
  -- all that the call takes it answers, and nothing else
  pub answers : (c : Config) (n : ℕ) → Taken c n → (d : Duration) × (duration_of c n ≡ value d)
  pub answered : (c : Config) (n : ℕ) (d : Duration) → duration_of c n ≡ value d → Taken c n
  -- the sentence holds of the answer, and of no other length
  pub exact : (c : Config) (n : ℕ) (d : Duration) → duration_of c n ≡ value d → Exact c n d
  pub only : (c : Config) (n : ℕ) (d : Duration) → Taken c n → Exact c n d → duration_of c n ≡ value d
  -- 32 is for more words on an accepted sheet, and for nothing else (RULES 6.32)
  pub long : (c : Config) (n : ℕ) → timing_of c ≡ value (derived c) → limit < n → duration_of c n ≡ refused 32
  pub only-long : (c : Config) (n : ℕ) → duration_of c n ≡ refused 32 → (timing_of c ≡ value (derived c)) × (limit < n)
