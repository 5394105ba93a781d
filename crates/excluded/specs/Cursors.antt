-- Cursors: what a wrong program would give on sheet E, which the contract of the call excludes.
use Rattle.std.specs.Prelude.{ℕ, ◌≡◌, Result, Ok, List, [], ◌∷◌}
use Rattle.std.specs.Borrow.{Bor}
use Rattle.basics.specs.declared.refusal.Refusal.{Refusal}
use Rattle.command.specs.Pairs.{desl}
use Rattle.config.specs.Configuration.{institute}
use Rattle.checker.specs.Steps.{fresh}
use Rattle.checker.specs.declared.checker.Checker.{Checker}
use Rattle.walks.specs.Walk.{MovePromised}
use Rattle.cursor.specs.Cursor.{NewPromised, AdvancePromised}
use Rattle.walks.specs.declared.Progress.{Progress}
use Rattle.walks.specs.declared.Progress.TheVariants.{End}
use Rattle.cursor.specs.declared.TraceCursor.{TraceCursor}

-- no contract lets an advance of a fresh walk over ws answer so and leave the checker `after`: not that of `next_word`, which
-- `advance_through` of `lending` has too, and not that of `advance`, which promises the same of its checker
abbrev pub NoAdvance : List ℕ → Result Progress Refusal → Checker → Type 0
NoAdvance ws answer after = MovePromised (fresh institute) ws (record { progress = answer; checker = after }) → ⊥

-- a word that passes at clock 0: DESL
abbrev pub passing : List ℕ
passing = desl ∷ []

-- a word that breaches there: PD and CS low
abbrev pub breaching : List ℕ
breaching = 0 ∷ []

-- of each, whatever it answers or leaves besides
pub record Cursors : Type 0 where
  -- a fresh walk that starts at clock 1
  pub new_at-clock-1 : (words : Bor (List ℕ)) (r : TraceCursor) → r.checker.clock ≡ 1 → NewPromised words institute r → ⊥
  -- one that has no words
  pub new_without-words : (words : Bor (List ℕ)) (r : TraceCursor) → words.now ≡ passing → r.words.now ≡ []
      → NewPromised words institute r → ⊥
  -- an advance that stays at a word that passes
  pub advance-stays : (p : Result Progress Refusal) → NoAdvance passing p (fresh institute)
  -- one that says end there
  pub advance-ends-early : (after : Checker) → NoAdvance passing (Ok End) after
  -- one that goes past a breaching word
  pub advance-past-a-breach : (p : Result Progress Refusal) (after : Checker) → after.clock ≡ 1 → NoAdvance breaching p after
  -- one that gives the words of its walk up
  pub advance-words_lost : (s after : TraceCursor) (p : Result Progress Refusal) → s.words.now ≡ passing → after.words.now ≡ []
      → AdvancePromised s p after → ⊥
