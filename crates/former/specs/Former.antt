-- The twelve rules as they were published before rule 3 went by an average and PD might go low, and what has become of verdicts by them
-- (RULES 5.8).
use Rattle.std.specs.Prelude.{ℕ, ◌-◌, ◌≤◌, ◌≡◌, not, ◌&&◌, List, [], ◌∷◌, ◌++◌, length, get_or, take, drop, replicate, leb, ltb}
use Rattle.command.specs.Pairs.{desl}
use Rattle.config.specs.Configuration.{institute, derived}
use Rattle.config.specs.declared.Timing.{Timing}
use Rattle.command.specs.Pins.{high}
use Rattle.rules.specs.History.{nothing}
use Rattle.rules.specs.Rules.{Rule, closings, was_refresh, rule1, rules}
use Rattle.rules.specs.Verdict.{Judgement, accepted, breach, judge_by, judge}

-- the former rule 2: PD is low
abbrev pub former_rule2 : Rule
former_rule2 t p w = not (high 19 w)

-- the former rule 3: there is a REF word before k, and k is more than D after the last one
abbrev pub former_rule3 : Rule
former_rule3 t p w =
    let refs = closings was_refresh p.pairs in
    leb 1 (length refs) && ltb t.refi (p.clock - get_or refs 0 0)

-- the former table: rules 1 and 4 to 12 are those that hold now, and there is no rule 13
abbrev pub former_rules : List Rule
former_rules = rule1 ∷ former_rule2 ∷ former_rule3 ∷ take 9 (drop 3 rules)

-- the verdict on a trace by that table
abbrev pub former_judge : Timing → List ℕ → Judgement
former_judge t words = judge_by former_rules t nothing words

-- a trace that falls asleep at clock 0
abbrev pub sleeper : List ℕ
sleeper = 0x40000 ∷ []

-- refreshes at 0 and 18, the second with its REF word at 19, and so many DESL words
abbrev pub refreshed : ℕ → List ℕ
refreshed desls = 0x80000 ∷ 0x80000 ∷ (replicate 16 desl ++ (0x80000 ∷ 0x80000 ∷ replicate desls desl))

-- the theorem, on any timing and any trace; the examples are on sheet E
pub record StillPasses : Type 0 where
  -- what was accepted is accepted; there are such traces, as one whose last word is D after its second REF word
  pub passes : (t : Timing) (words : List ℕ) → former_judge t words ≡ accepted → judge t words ≡ accepted
  pub some-passed : former_judge (derived institute) (refreshed 780) ≡ accepted
  -- a breach by another number than 2 and 3 stays, clock and number; there are such, as a refresh two clocks after another
  pub stays : (t : Timing) (words : List ℕ) (k n : ℕ) → former_judge t words ≡ breach k n → (n ≡ 2 → ⊥) → (n ≡ 3 → ⊥)
      → judge t words ≡ breach k n
  pub some_stayed : former_judge (derived institute) (replicate 4 0x80000) ≡ breach 3 10
  -- by whatever number a breach was, no word before it is in breach
  pub no_earlier : (t : Timing) (words : List ℕ) (k n j m : ℕ) → former_judge t words ≡ breach k n → judge t words ≡ breach j m → k ≤ j
  -- neither exception can be left out: a breach 2 that is none, and a breach 3
  pub slept : (former_judge (derived institute) sleeper ≡ breach 0 2) × (judge (derived institute) sleeper ≡ accepted)
  pub late : (former_judge (derived institute) (refreshed 781) ≡ breach 800 3) × (judge (derived institute) (refreshed 781) ≡ accepted)
