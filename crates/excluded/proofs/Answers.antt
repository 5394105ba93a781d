-- Each definition has an inverse, from the paper's terms back to the answer.
use Prim.Native.Nat.{ℕ, ◌-◌}
use mathlib.Core.Path.{◌≡◌, refl, sym, ◌∙◌, ap}
use mathlib.Core.List.{List, [], ◌∷◌}
use Rattle.std.specs.Prelude.{Option, Some, None, Result, Ok, Err}
use lib.ListN.{get_or}
use Rattle.basics.specs.Outcome.{Outcome, value, refused}
use Rattle.basics.specs.Numbers.{refusal_number}
use Rattle.basics.specs.Answers.{outcome_of, outcome_by}
use Rattle.basics.specs.declared.refusal.Refusal.{Refusal}
use Rattle.basics.specs.declared.refusal.Refusal.TheVariants.{
  State,
  Part,
  Period,
  Count,
  InBreach,
  ClockLimit,
  InputSize,
  Field,
  QueueFull,
  NotAPair,
  PartialWord,
  TooLong,
  WordCount,
  ShortRefresh,
  Wiring,
  Limits,
}
use Rattle.rules.specs.Verdict.{Judgement, accepted, breach}
use Rattle.checker.specs.Steps.{judgement_of, verdict_outcome}
use Rattle.checker.specs.declared.checker.Breach.{Breach}
use Rattle.limits.specs.Limits.{Finding, always, breach_on}
use Rattle.limits.specs.Answers.{finding_of}
use Rattle.limits.specs.declared.BreachOn.{BreachOn}
use Rattle.rules.specs.Turns.{Turn, closed, single}
use Rattle.turns.specs.OneTurn.{turn_outcome}
use Rattle.turns.specs.declared.TurnWords.{TurnWords}
use Rattle.counts.specs.Counts.{counting_outcome}
use Rattle.counts.specs.declared.CommandCounts.{CommandCounts}
use Rattle.counts.specs.declared.Uncounted.{Uncounted}
use Rattle.walks.specs.Walk.{Reached, passed, breached, ended, reached_of, progress_outcome}
use Rattle.walks.specs.declared.Progress.{Progress}
use Rattle.early.specs.Answers.{breach_number}
use Rattle.early.specs.declared.rule.Rule.{Rule}
use Rattle.early.specs.declared.rule.Rule.TheVariants.{
  StrayBit,
  LowPd,
  RefreshOverdue,
  WrongMode,
  ReservedLane,
  NotReady,
  SameBank,
  TooClose,
  AfterMode,
  AfterRefresh,
  Busy,
  RefreshWindow,
  SelectedAtExit,
}
use Rattle.excluded.specs.Excluded.{Injective, Answers}

inverted : {A B : Type 0} (f : A → B) (back : B → A) → ((x : A) → back (f x) ≡ x) → Injective f
inverted f back h x y e = sym (h x) ∙ ap back e ∙ h y

-- the refusal of a number, from 19 on
abbrev refusals : List (Option Refusal)
refusals =
    None
    ∷ Some State
    ∷ Some Part
    ∷ Some Period
    ∷ Some Count
    ∷ Some InBreach
    ∷ Some ClockLimit
    ∷ Some InputSize
    ∷ Some Field
    ∷ Some QueueFull
    ∷ Some NotAPair
    ∷ Some PartialWord
    ∷ Some TooLong
    ∷ None
    ∷ Some WordCount
    ∷ Some ShortRefresh
    ∷ Some Wiring
    ∷ Some Limits
    ∷ []

abbrev named : ℕ → Option Refusal
named n = get_or refusals (n - 18) None

named-is : (r : Refusal) → named (refusal_number r) ≡ Some r
named-is State = refl
named-is Part = refl
named-is Period = refl
named-is Count = refl
named-is InBreach = refl
named-is ClockLimit = refl
named-is InputSize = refl
named-is Field = refl
named-is QueueFull = refl
named-is NotAPair = refl
named-is PartialWord = refl
named-is TooLong = refl
named-is WordCount = refl
named-is ShortRefresh = refl
named-is Wiring = refl
named-is Limits = refl

abbrev or_state : Option Refusal → Refusal
or_state None = State
or_state (Some r) = r

abbrev refusal : ℕ → Refusal
refusal n = or_state (named n)

refusal_is : (r : Refusal) → refusal (refusal_number r) ≡ r
refusal_is r = ap or_state (named-is r)

-- the answer of an outcome, by what its value is an answer's
abbrev answer : {A B : Type 0} → (B → A) → Outcome B → Result A Refusal
answer back (value b) = Ok (back b)
answer back (refused n) = Err (refusal n)

-- an answer is told by its outcome if its value is told by what that is in the paper's terms
same_by : {A B : Type 0} (f : A → B) (back : B → A) → ((a : A) → back (f a) ≡ a) → Injective (outcome_by f)
same_by {A} f back h = inverted (outcome_by f) (answer back) by
  where
    by : (x : Result A Refusal) → answer back (outcome_by f x) ≡ x
    by (Ok a) = ap Ok (h a)
    by (Err r) = ap Err (refusal_is r)

same_of : {A : Type 0} → Injective (outcome_of {A = A})
same_of {A} = inverted outcome_of (answer (λ a. a)) by
  where
    by : (x : Result A Refusal) → answer (λ a. a) (outcome_of x) ≡ x
    by (Ok a) = refl
    by (Err r) = ap Err (refusal_is r)

-- the rule of a number, none of 0
abbrev rules : List (Option Rule)
rules =
    None
    ∷ Some StrayBit
    ∷ Some LowPd
    ∷ Some RefreshOverdue
    ∷ Some WrongMode
    ∷ Some ReservedLane
    ∷ Some NotReady
    ∷ Some SameBank
    ∷ Some TooClose
    ∷ Some AfterMode
    ∷ Some AfterRefresh
    ∷ Some Busy
    ∷ Some RefreshWindow
    ∷ Some SelectedAtExit
    ∷ []

breach_is : (x : Option Rule) → get_or rules (breach_number x) None ≡ x
breach_is None = refl
breach_is (Some StrayBit) = refl
breach_is (Some LowPd) = refl
breach_is (Some RefreshOverdue) = refl
breach_is (Some WrongMode) = refl
breach_is (Some ReservedLane) = refl
breach_is (Some NotReady) = refl
breach_is (Some SameBank) = refl
breach_is (Some TooClose) = refl
breach_is (Some AfterMode) = refl
breach_is (Some AfterRefresh) = refl
breach_is (Some Busy) = refl
breach_is (Some RefreshWindow) = refl
breach_is (Some SelectedAtExit) = refl

first_breach : Judgement → Option Breach
first_breach accepted = None
first_breach (breach k n) = Some (record { clock = k; number = n })

judgement_is : (x : Option Breach) → first_breach (judgement_of x) ≡ x
unfolding first_breach
judgement_is None = refl
judgement_is (Some b) = refl

found : Finding → Option BreachOn
found always = None
found (breach_on c k n) = Some (record { sheet = c; breach = record { clock = k; number = n } })

finding-is : (x : Option BreachOn) → found (finding_of x) ≡ x
unfolding found
finding-is None = refl
finding-is (Some b) = refl

-- number 0 is no refusal's
counted : Option Refusal → CommandCounts → Result CommandCounts Uncounted
counted None c = Ok c
counted (Some r) c = Err (record { why = r; counts = c })

counting-is : (x : Result CommandCounts Uncounted) → counted (named (counting_outcome x).number) (counting_outcome x).counts ≡ x
unfolding counted
counting-is (Ok c) = refl
counting-is (Err u) = ap (λ o. counted o u.counts) (named-is u.why)

turned : List Turn → ℕ → Option (TurnWords × ℕ)
turned [] n = None
turned (closed p ∷ xs) n = Some (TurnWords.Closed (record { first = p.first; second = p.second }), n)
turned (single k w ∷ xs) n = Some (TurnWords.Single w, n)

turned-is : (at : ℕ) (x : Option (TurnWords × ℕ)) → turned (turn_outcome at x).turn (turn_outcome at x).next ≡ x
unfolding turned
turned-is at (Some (TurnWords.Closed p, n)) = refl
turned-is at (Some (TurnWords.Single w, n)) = refl
turned-is at None = refl

progress : Reached → Progress
progress passed = Progress.Passed
progress (breached k n) = Progress.InBreach (record { clock = k; number = n })
progress ended = Progress.End

progress-is : (x : Progress) → progress (reached_of x) ≡ x
unfolding progress
progress-is Progress.Passed = refl
progress-is (Progress.InBreach b) = refl
progress-is Progress.End = refl

same-verdict : Injective verdict_outcome
same-verdict = same_by judgement_of first_breach judgement_is

pub same-counting : Injective counting_outcome
same-counting = inverted counting_outcome (λ k. counted (named k.number) k.counts) counting-is

pub same-progress : Injective progress_outcome
same-progress = same_by reached_of progress progress-is

pub answers : Answers
answers =
    record {
      refusal = inverted refusal_number refusal refusal_is;
      breach = inverted breach_number (λ n. get_or rules n None) breach_is;
      timing = same_of;
      read = same_of;
      write = same_of;
      verdict = same-verdict;
      step = λ x y e i. record { verdict = same-verdict x.verdict y.verdict (ap (λ r. r.outcome) e) i; checker = (e i).after };
      within = same_by finding_of found finding-is;
      duration = same_of;
      counting = same-counting;
      turn = λ at. inverted (turn_outcome at) (λ r. turned r.turn r.next) (turned-is at);
      call = same_of;
      offer = λ x y e i. record { answer = same_of x.answer y.answer (ap (λ r. r.outcome) e) i; controller = (e i).after };
      tick =
          λ x y e i.
          record { answer = same_of x.answer y.answer (ap (λ r. r.outcome) e) i; word = (e i).word; controller = (e i).after };
      progress = same-progress;
      move = λ x y e i. record { progress = same-progress x.progress y.progress (ap (λ r. r.outcome) e) i; checker = (e i).after };
    }
