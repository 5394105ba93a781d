-- What an answer of the call is worth (RULES 5.7): yes holds for every sheet in the limits, and where it does not hold one of them is
-- shown. The refusals of the two sheets themselves, and their order, are in Sheets of `sheets`.
use Rattle.std.specs.Prelude.{ℕ, ◌≤◌, ◌<◌, ◌≡◌, List, [], length}
use Rattle.basics.specs.Numbers.{limit}
use Rattle.basics.specs.Outcome.{value, refused}
use Rattle.config.specs.Configuration.{derived, timing_of, wired_of}
use Rattle.config.specs.declared.Config.{Config}
use Rattle.rules.specs.Verdict.{accepted, breach, judge, check_of}
use Rattle.limits.specs.Limits.{Finding, always, breach_on, within_of}

-- two sheets are alike in the rest, and the first is nowhere above the second
pub record Ordered (a b : Config) : Type 0 where
  pub grade : a.grade ≡ b.grade
  pub cl : a.cl ≡ b.cl
  pub bl : a.bl ≡ b.bl
  pub organisation : a.organisation ≡ b.organisation
  pub wiring : a.wiring ≡ b.wiring
  pub period : a.period.0 ≤ b.period.0
  pub rbd : a.rbd.0 ≤ b.rbd.0
  pub rwd : a.rwd.0 ≤ b.rwd.0
  pub wrd : a.wrd.0 ≤ b.wrd.0
  pub rsc : a.rsc.0 ≤ b.rsc.0
  pub refc : a.refc.0 ≤ b.refc.0

-- a sheet is in the limits of two: alike in the rest, and each of the six numbers from the first's to the second's
pub record InLimits (a b c : Config) : Type 0 where
  pub from : Ordered a c
  pub to : Ordered c b

-- no sheet in the limits has the words in breach
abbrev pub NoneInBreach : Config → Config → List ℕ → Type 0
NoneInBreach a b words = (c : Config) (clock n : ℕ) → InLimits a b c → judge (derived c) words ≡ breach clock n → ⊥

-- what the call takes: two accepted sheets, alike in the rest, the first nowhere above the second; and at most 16,777,216 words
pub record Taken (a b : Config) (words : List ℕ) : Type 0 where
  pub least : timing_of a ≡ value (derived a)
  pub greatest : timing_of b ≡ value (derived b)
  pub ordered : Ordered a b
  pub short : length words ≤ limit

-- the theorem
pub record Within : Type 0 where
  -- there are such sheets: here each of the six numbers has room
  pub some : Taken (wired_of 37 5 4 16 4000 2 1 1 5 16 8) (wired_of 37 5 4 16 5000 3 2 2 7 20 8) []
  -- every sheet in the limits of two accepted ones is accepted
  pub in_between : (a b c : Config) → timing_of a ≡ value (derived a) → timing_of b ≡ value (derived b) → InLimits a b c
      → timing_of c ≡ value (derived c)
  -- the whole check on a sheet in the limits comes to the verdict by its figures
  pub check : (a b c : Config) (words : List ℕ) → Taken a b words → InLimits a b c → check_of c words ≡ value (judge (derived c) words)
  -- the two sheets decide for all between them: what both accept, each of those accepts
  pub both : (a b c : Config) (words : List ℕ) → timing_of a ≡ value (derived a) → InLimits a b c
      → judge (derived a) words ≡ accepted → judge (derived b) words ≡ accepted → judge (derived c) words ≡ accepted
  -- all that the call takes it answers, and nothing else
  pub answers : (a b : Config) (words : List ℕ) → Taken a b words → (f : Finding) × (within_of a b words ≡ value f)
  pub answered : (a b : Config) (words : List ℕ) (f : Finding) → within_of a b words ≡ value f → Taken a b words
  -- the answer is yes exactly when no sheet in the limits has the words in breach
  pub yes : (a b : Config) (words : List ℕ) → within_of a b words ≡ value always → NoneInBreach a b words
  pub only_yes : (a b : Config) (words : List ℕ) → Taken a b words → NoneInBreach a b words → within_of a b words ≡ value always
  -- a sheet shown is in the limits, and the verdict shown is that on it
  pub in_limits : (a b c : Config) (words : List ℕ) (clock n : ℕ) → within_of a b words ≡ value (breach_on c clock n) → InLimits a b c
  pub verdict : (a b c : Config) (words : List ℕ) (clock n : ℕ) → within_of a b words ≡ value (breach_on c clock n)
      → judge (derived c) words ≡ breach clock n
  -- 35 is for accepted sheets that are no limits, and for nothing else (RULES 6.35)
  pub no_limits : (a b : Config) (words : List ℕ) → timing_of a ≡ value (derived a) → timing_of b ≡ value (derived b)
      → (Ordered a b → ⊥) → within_of a b words ≡ refused 35
  pub only_no_limits : (a b : Config) (words : List ℕ) → within_of a b words ≡ refused 35
      → (timing_of a ≡ value (derived a)) × (timing_of b ≡ value (derived b)) × (Ordered a b → ⊥)
  -- 24 is for more words on limits, and for nothing else (RULES 6.24)
  pub long : (a b : Config) (words : List ℕ) → timing_of a ≡ value (derived a) → timing_of b ≡ value (derived b) → Ordered a b
      → limit < length words → within_of a b words ≡ refused 24
  pub only-long : (a b : Config) (words : List ℕ) → within_of a b words ≡ refused 24
      → (timing_of a ≡ value (derived a)) × (timing_of b ≡ value (derived b)) × Ordered a b × (limit < length words)
