-- What an advance of a walk does, for every state there is; and a whole walk, beside the published verdict (RULES 5.5).
use Rattle.std.specs.Prelude.{ℕ, zero, suc, ◌≤◌, ◌<◌, ◌≡◌, cond, List, [], ◌∷◌, length, get_or, ltb, Result}
use Rattle.basics.specs.Outcome.{Outcome, value, refused, require, given}
use Rattle.basics.specs.Numbers.{limit}
use Rattle.basics.specs.Answers.{outcome_by}
use Rattle.basics.specs.declared.refusal.Refusal.{Refusal}
use Rattle.config.specs.Configuration.{timing_of}
use Rattle.config.specs.declared.Config.{Config}
use Rattle.config.specs.declared.Timing.{Timing}
use Rattle.rules.specs.Verdict.{Judgement, accepted, breach, judge}
use Rattle.consistency.specs.Consistency.{clock_fits}
use Rattle.checker.specs.Steps.{Step, fresh, step_of}
use Rattle.checker.specs.declared.checker.Checker.{Checker}
use Rattle.walks.specs.declared.Moved.{Moved}
use Rattle.walks.specs.declared.Progress.{Progress}
use Rattle.walks.specs.declared.Progress.TheVariants.{Passed, InBreach, End}

-- what an advance reaches: its word passed, it breached (clock and number), or no word was left
pub data Reached : Type 0 where
  passed : Reached
  breached : ℕ → ℕ → Reached
  ended : Reached

-- what an advance that is not refused reaches, in the paper's terms
abbrev pub reached_of : Progress → Reached
reached_of Passed = passed
reached_of (InBreach b) = breached b.clock b.number
reached_of End = ended

-- what an answer is in the paper's terms
abbrev pub progress_outcome : Result Progress Refusal → Outcome Reached
progress_outcome r = outcome_by reached_of r

-- an advance's answer, and the state that it leaves
pub record Move : Type 0 where
  pub outcome : Outcome Reached
  pub after : Checker

-- what `next_word`, and `advance_through` of `lending`, return, as these two
abbrev pub moved : Moved → Move
moved r = record { outcome = progress_outcome r.progress; after = r.checker }

-- the state stays, and so does the word that is the next
abbrev pub staying : Checker → Outcome Reached → Move
staying s o = record { outcome = o; after = s }

-- of a single word, accepted says that it passed
abbrev pub of_word : Outcome Judgement → Outcome Reached
of_word (value accepted) = value passed
of_word (value (breach k n)) = value (breached k n)
of_word (refused n) = refused n

-- what the step at the next word is in a walk
abbrev pub examined : Step → Move
examined r = record { outcome = of_word r.outcome; after = r.after }

-- with no word left: the sheet's refusals, then 19, then end, ahead of 23 and 24 (RULES 7.1)
abbrev pub at_end : Checker → Outcome Reached
at_end s = given (timing_of s.config) (λ _. require (clock_fits s.clock s.met s.stamps) 19 (value ended))

-- an advance: the word at the clock is judged as a step judges it, refusals included; with no word left nothing changes
abbrev pub move_of : Checker → List ℕ → Move
move_of s ws = cond (ltb s.clock (length ws)) (examined (step_of s (get_or ws s.clock 0))) (staying s (at_end s))

-- what the contracts of `next_word`, and of `advance_through` of `lending`, say of the result r
abbrev pub MovePromised : Checker → List ℕ → Moved → Type 0
MovePromised s ws r = moved r ≡ move_of s ws

-- the state after n advances, whatever each answered
abbrev pub advanced : ℕ → Checker → List ℕ → Checker
advanced zero s ws = s
advanced (suc n) s ws = advanced n (move_of s ws).after ws

-- an answer, or the rest if it is a pass
abbrev pub unless : Outcome Reached → Outcome Reached → Outcome Reached
unless (value passed) rest = rest
unless (value (breached k n)) rest = value (breached k n)
unless (value ended) rest = value ended
unless (refused n) rest = refused n

-- the first answer of n advances that is no pass
abbrev pub walking : ℕ → Checker → List ℕ → Outcome Reached
walking zero s ws = value passed
walking (suc n) s ws = let rest = walking n (move_of s ws).after ws in unless (move_of s ws).outcome rest

-- where a whole walk stops, by the verdict on its words
abbrev pub stop_of : Judgement → Reached
stop_of accepted = ended
stop_of (breach k n) = breached k n

-- a call on a state: one word is examined, or a walk over some words is advanced
pub data CheckerCall : Type 0 where
  step : ℕ → CheckerCall
  advance : List ℕ → CheckerCall

-- the state after a call, whatever it answered
abbrev pub after_call : Checker → CheckerCall → Checker
after_call s (step w) = (step_of s w).after
after_call s (advance ws) = (move_of s ws).after

-- the state after a list of calls
abbrev pub after_calls : Checker → List CheckerCall → Checker
after_calls s [] = s
after_calls s (x ∷ xs) = after_calls (after_call s x) xs

-- the theorem that joins walks to the published rules
pub record Walk : Type 0 where
  -- for every accepted configuration and every trace that the whole check takes: a fresh walk that is advanced until it does not pass, at
  -- the latest one advance after its last word, gives the published verdict
  pub verdict : (c : Config) (t : Timing) (ws : List ℕ) (n : ℕ) → timing_of c ≡ value t → length ws ≤ limit → length ws < n
      → walking n (fresh c) ws ≡ value (stop_of (judge t ws))
  -- it says end where its words have run out, and nowhere else
  pub end-there : (c : Config) (t : Timing) (ws : List ℕ) (n : ℕ) → timing_of c ≡ value t → (advanced n (fresh c) ws).clock ≡ length ws
      → (move_of (advanced n (fresh c) ws) ws).outcome ≡ value ended
  pub only-there : (c : Config) (ws : List ℕ) (n : ℕ) → (move_of (advanced n (fresh c) ws) ws).outcome ≡ value ended
      → (advanced n (fresh c) ws).clock ≡ length ws
  -- whatever calls were made on a fresh state, on any sheet, the next one is not refused by 19 (RULES 6.19)
  pub never-19 : (c : Config) (xs : List CheckerCall) (ws : List ℕ) → (move_of (after_calls (fresh c) xs) ws).outcome ≡ refused 19 → ⊥
  pub step-never-19 : (c : Config) (xs : List CheckerCall) (w : ℕ) → (step_of (after_calls (fresh c) xs) w).outcome ≡ refused 19 → ⊥
