-- The call on limits that it takes is the check on the one sheet, and where that is accepted, on the other.
use Prim.Native.Nat.{ℕ}
use mathlib.Core.Path.{◌≡◌, refl, sym}
use mathlib.Core.Bool.{Bool, true, false, ◌&&◌}
use mathlib.Core.List.{List}
use lib.ListN.{length}
use lib.Dec.{leb}
use Rattle.basics.specs.Outcome.{Outcome, value, refused, require, given}
use Rattle.config.specs.Configuration.{timing_of}
use Rattle.config.specs.declared.Config.{Config}
use Rattle.config.specs.declared.Timing.{Timing}
use Rattle.rules.specs.Verdict.{Judgement, accepted, breach, judge, check_of}
use Rattle.limits.specs.Limits.{alike, nowhere_above, Finding, always, breach_on, shown, within_of}

-- the trace on one sheet
abbrev pub found_on : Config → List ℕ → Outcome Finding
found_on c words = given (check_of c words) (λ j. value (shown c j always))

-- what a sheet comes to, and if that is accepted, what the next one does
abbrev pub or_next : Outcome Finding → Outcome Finding → Outcome Finding
or_next (value always) rest = rest
or_next (value (breach_on c clock n)) rest = value (breach_on c clock n)
or_next (refused n) rest = refused n

by_length : (b : Bool) (c d : Config) (i j : Judgement)
    → require b 24 (value (shown c i (shown d j always)))
    ≡ or_next (given (require b 24 (value i)) (λ i. value (shown c i always)))
    (given (require b 24 (value j)) (λ j. value (shown d j always)))
by_length true c d accepted j = refl
by_length true c d (breach clock n) j = refl
by_length false c d i j = refl

-- by what the first sheet comes to
pub by_both : (a b : Config) (words : List ℕ) {s t : Timing} {o : Outcome Finding} → value s ≡ timing_of a → value t ≡ timing_of b
    → (alike a b && nowhere_above a b) ≡ true → o ≡ found_on a words → or_next o (found_on b words) ≡ within_of a b words
by_both a b words {s} {t} p q e h =
    rw (← p, ← q, e, h, ← p) (sym (by_length (leb (length words) 16777216) a b (judge s words) (judge t words)))
