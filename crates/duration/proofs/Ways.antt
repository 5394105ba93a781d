-- The three ways that the call goes: the sheet's refusal, 32, and so many periods.
use Prim.Native.Nat.{ℕ, ◌*◌, ◌≤◌, ◌<◌}
use mathlib.Core.Path.{◌≡◌}
use borrow.Author.Tests.{le-leb, lt-leb}
use Rattle.basics.specs.Outcome.{value, refused}
use Rattle.config.specs.Configuration.{timing_of}
use Rattle.config.specs.declared.Config.{Config}
use Rattle.config.specs.declared.Timing.{Timing}
use Rattle.duration.specs.Duration.{in_nanoseconds, duration_of}

module _ (c : Config) (n : ℕ) where
  pub unfit : {m : ℕ} → timing_of c ≡ refused m → duration_of c n ≡ refused m
  unfit e = rw e

  pub long : {t : Timing} → timing_of c ≡ value t → 16777216 < n → duration_of c n ≡ refused 32
  long e h = rw (e, lt-leb n 16777216 h)

  pub lasting : {t : Timing} → timing_of c ≡ value t → n ≤ 16777216 → duration_of c n ≡ value (in_nanoseconds (n * c.period.0))
  lasting e h = rw (e, le-leb n 16777216 h)
