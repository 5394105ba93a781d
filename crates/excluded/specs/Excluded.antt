-- The wrong programs of the paper's section "What a reviewer will try, in order": what each would give, and that a contract, or demand 3,
-- excludes it.
use Rattle.std.specs.Prelude.{ℕ, zero, suc, ◌+◌, ◌≤◌, ◌<◌, ◌≡◌, true, false, List, [], ◌∷◌, ◌++◌, length, get_or, replicate}
use Rattle.std.specs.Prelude.{Option, Some, None, Result, Ok, Err}
use Rattle.command.specs.Pairs.{desl}
use Rattle.basics.specs.Outcome.{value}
use Rattle.basics.specs.Numbers.{refusal_number, limit}
use Rattle.basics.specs.Answers.{outcome_of}
use Rattle.config.specs.Configuration.{institute, derived, timing_of}
use Rattle.config.specs.declared.Config.{Config}
use Rattle.config.specs.declared.Timing.{Timing}
use Rattle.basics.specs.declared.refusal.Refusal.{Refusal}
use Rattle.basics.specs.declared.refusal.Refusal.TheVariants.{ClockLimit, Field, QueueFull}
use Rattle.early.specs.Answers.{breach_number}
use Rattle.reading.specs.declared.Decoded.{Decoded}
use Rattle.command.specs.declared.operation.Pair.{Pair}
use Rattle.writing.specs.Writing.{request_fits}
use Rattle.command.specs.declared.operation.Request.{Request}
use Rattle.words.specs.Words.{words_of}
use Rattle.rules.specs.History.{nothing}
use Rattle.rules.specs.Rules.{breach_at}
use Rattle.rules.specs.Verdict.{Judgement, accepted, lead, judge, check_of, check_bytes_of}
use Rattle.model.specs.Traces.{At, words, start_up_pairs, read_at, bank0_read}
use Rattle.consistency.specs.Consistency.{clock_fits}
use Rattle.checker.specs.Steps.{verdict_outcome, stepped, fresh, step_of}
use Rattle.checker.specs.declared.checker.Breach.{Breach}
use Rattle.checker.specs.declared.checker.Checker.{Checker}
use Rattle.limits.specs.Answers.{finding_outcome}
use Rattle.duration.specs.declared.Duration.{Duration}
use Rattle.turns.specs.OneTurn.{turn_outcome}
use Rattle.counts.specs.Counts.{counts_of, no_counts, counting_outcome, counting_of}
use Rattle.counts.specs.declared.CommandCounts.{CommandCounts}
use Rattle.counts.specs.declared.Uncounted.{Uncounted}
use Rattle.queue.specs.Queue.{vacant}
use Rattle.controller.specs.Steps.{held, call_outcome, offered, ticked}
use Rattle.controller.specs.declared.Controller.{Controller}
use Rattle.rules.specs.Turns.{pairs_of, starts}
use Rattle.model.specs.Runs.{Call, offer, tick, Accepted, Run, latest_start}
use Rattle.model.specs.Demand3.{put_out, taken, InOrder, Prompt}
use Rattle.excluded.specs.Calls.{Never, Calls}
use Rattle.excluded.specs.Cursors.{Cursors}
use Rattle.walks.specs.Walk.{progress_outcome, moved, MovePromised}
use Rattle.walks.specs.declared.Progress.{Progress}

-- words of start-up and DESL alone, on sheet E
abbrev pub idle_words : ℕ → List ℕ
idle_words desls = words 0 start_up_pairs desls

-- one offer of a bank 0 read before the first tick, and so many ticks
abbrev pub idle_calls : ℕ → List Call
idle_calls ticks = offer bank0_read ∷ replicate ticks tick

-- a run that gives those words, with the read accepted before the first tick
abbrev pub idle_run : ℕ → Controller → Run
idle_run desls s =
    record { words = idle_words desls; accepted = record { request = bank0_read; ticks = 0; ahead = 0 } ∷ []; controller = s }

-- n reads of bank 0, each of the next row
abbrev pub reads_from : ℕ → ℕ → List Request
reads_from row zero = []
reads_from row (suc n) = record { write = false; bank = 0; row = row; column = 0; lower = 0; upper = 0 } ∷ reads_from (row + 1) n

-- a read of bank 0, row and column 0, n times, each RC of sheet E after the last
abbrev pub first_again : ℕ → ℕ → List At
first_again clock zero = []
first_again clock (suc n) = read_at clock 0 ∷ first_again (clock + 5) n

-- words that put out the first of sixteen reads again and again, on sheet E
abbrev pub faked_words : List ℕ
faked_words = words 0 (start_up_pairs ++ first_again 201 16) 0

-- a run that gives them
abbrev pub faked_run : List Accepted → Controller → Run
faked_run all s = record { words = faked_words; accepted = all; controller = s }

-- wrong controllers: each by one sentence of demand 3, whatever the others say, or by the contract of one call
pub record Controllers : Type 0 where
  -- one that gives start-up and DESL alone, by the clock bound. The read's bound is clock 229. A pair that opens there would be in time,
  -- so the words are rejected from the next clock on: whatever the calls were and the controller holds.
  pub only-start_up : (desls : ℕ) (calls : List Call) (s : Controller) → 231 ≤ length (idle_words desls)
      → Prompt (derived institute) calls (idle_run desls s) → ⊥
  -- with the calls that make such a run no pair is open at its end, so the words are rejected as soon as the one at clock 229 is given:
  -- with 230 words, and not with 229
  pub at_the_bound : (s : Controller) → Prompt (derived institute) (idle_calls 230) (idle_run 196 s) → ⊥
  pub not-before : (s : Controller) → Prompt (derived institute) (idle_calls 229) (idle_run 195 s)
  -- one that puts nothing out, with any timing: its words have no read or write pair, and the bound is past
  pub nothing-out : (t : Timing) (calls : List Call) (r : Run) (a : Accepted) (newer : List Accepted) → r.accepted ≡ a ∷ newer
      → starts (pairs_of r.words) ≡ [] → latest_start t a + 1 < length r.words → Prompt t calls r → ⊥
  -- one that accepts sixteen requests and puts out the first in place of each, by the requests field for field
  pub faked_rest : (all : List Accepted) (s : Controller) → taken (faked_run all s) ≡ reads_from 0 16
      → InOrder (derived institute) (faked_run all s) → ⊥
  -- the words of the one that repeats the first break no rule
  pub faked_sound : judge (derived institute) faked_words ≡ accepted
  -- one whose n-th pair is read to another request than the n-th that was accepted, in whatever field, with any timing
  pub another_request : (t : Timing) (r : Run) (n : ℕ) → n < length (put_out t r)
      → (get_or (put_out t r) n vacant ≡ get_or (taken r) n vacant → ⊥) → InOrder t r → ⊥
  -- one that loses a request
  pub request_lost : (t : Timing) (r : Run) → length (put_out t r) + length (held r.controller) < length (taken r) → InOrder t r → ⊥
  -- an offer that refuses 27 with a place open, and one that refuses 26 to a request in range: of any state, and of either form of the
  -- call
  pub offer-27 : (s after : Controller) (q : Request) → s.count < 16 → Never s (offer q) (Err QueueFull) 0 after
  pub offer-26 : (s after : Controller) (q : Request) (t : Timing) → timing_of s.config ≡ value t → request_fits t q ≡ true
      → Never s (offer q) (Err Field) 0 after
  -- a tick that refuses 24 before its clock
  pub tick-24 : (s after : Controller) (word : ℕ) → s.clock < limit → Never s tick (Err ClockLimit) word after
  -- an offer or a tick that is accepted where its refusal is due
  pub offer-past-27 : (s after : Controller) (q : Request) → 16 ≤ s.count → Never s (offer q) (Ok tt) 0 after
  pub offer-past-26 : (s after : Controller) (q : Request) (t : Timing) → timing_of s.config ≡ value t → request_fits t q ≡ false
      → Never s (offer q) (Ok tt) 0 after
  pub tick-past-24 : (s after : Controller) (word : ℕ) → limit ≤ s.clock → Never s tick (Ok tt) word after

-- what a check or a step answers
abbrev Verdict : Type 0
Verdict = Result (Option Breach) Refusal

-- no contract lets the check of words answer so
abbrev pub NoCheck : Config → List ℕ → Verdict → Type 0
NoCheck c ws v = verdict_outcome v ≡ check_of c ws → ⊥

-- no contract lets the check of bytes answer so
abbrev pub NoCheckBytes : Config → List ℕ → Verdict → Type 0
NoCheckBytes c bytes v = verdict_outcome v ≡ check_bytes_of c bytes → ⊥

-- no contract lets a step answer so and leave the state `after`
abbrev pub NoStep : Checker → ℕ → Verdict → Checker → Type 0
NoStep s w v after = stepped (record { verdict = v; checker = after }) ≡ step_of s w → ⊥

-- what a check would find that judges every word by its first state
abbrev pub by_first_state : Timing → List ℕ → Judgement
by_first_state t [] = accepted
by_first_state t (w ∷ ws) = lead (breach_at t nothing w) 0 (by_first_state t ws)

-- RDA and an MRS with A7 high: breach 4 at clock 1, which that check does not find
abbrev pub wrong_mode : List ℕ
wrong_mode = 0xA0000 ∷ 0x80080 ∷ []

-- RDA and that MRS as bytes
abbrev pub wrong_mode_bytes : List ℕ
wrong_mode_bytes = 0x00 ∷ 0x00 ∷ 0x0A ∷ 0x00 ∷ 0x80 ∷ 0x00 ∷ 0x08 ∷ 0x00 ∷ []

-- wrong examiners
pub record Examiners : Type 0 where
  -- one that accepts everything: word 0 goes low with CS low, so no trace that begins with it passes; a word with bit 20 set passes at
  -- no state
  pub check-accepts : (c : Config) (ws : List ℕ) → NoCheck c (0 ∷ ws) (Ok None)
  pub bytes_accept : (c : Config) (bytes : List ℕ) → NoCheckBytes c (0 ∷ 0 ∷ 0 ∷ 0 ∷ bytes) (Ok None)
  pub step-accepts : (s after : Checker) → NoStep s 0x100000 (Ok None) after
  -- one that finds a breach in everything: DESL alone, none or any number of them, is in no breach
  pub check_breaches : (c : Config) (n : ℕ) (b : Breach) → NoCheck c (replicate n desl) (Ok (Some b))
  pub bytes-breach : (c : Config) (bytes : List ℕ) (n : ℕ) (b : Breach) → words_of bytes ≡ replicate n desl
      → NoCheckBytes c bytes (Ok (Some b))
  pub step_breaches : (c : Config) (b : Breach) (after : Checker) → NoStep (fresh c) desl (Ok (Some b)) after
  -- one that does not leave its first state: at a word that passes the clock goes one on, and a breach changes the state too
  pub step_stays : (s after : Checker) (w : ℕ) → (after.clock ≡ s.clock + 1 → ⊥) → NoStep s w (Ok None) after
  pub step-stays_in_breach : (s : Checker) (w : ℕ) (b : Breach) → NoStep s w (Ok (Some b)) s
  pub check-stays : (c : Config) (t : Timing) (v : Verdict) → verdict_outcome v ≡ value (by_first_state t wrong_mode)
      → NoCheck c wrong_mode v
  pub bytes_stay : (c : Config) (t : Timing) (v : Verdict) → verdict_outcome v ≡ value (by_first_state t wrong_mode)
      → NoCheckBytes c wrong_mode_bytes v

-- no contract lets the tally answer so
abbrev pub NoTally : Config → List ℕ → Result CommandCounts Uncounted → Type 0
NoTally s ws a = counting_outcome a ≡ counting_of s ws → ⊥

-- wrong tallies, on any sheet
pub record Tallies : Type 0 where
  -- one that invents counts: whichever of the counts differs, on any words
  pub invented : (s : Config) (ws : List ℕ) (c : CommandCounts) (count : CommandCounts → ℕ)
      → (count c ≡ count (counts_of (derived s) ws) → ⊥) → NoTally s ws (Ok c)
  -- of a refused tally, whichever is not 0
  pub invented-refused : (s : Config) (ws : List ℕ) (why : Refusal) (c : CommandCounts) (count : CommandCounts → ℕ)
      → (count c ≡ count no_counts → ⊥) → NoTally s ws (Err (record { why = why; counts = c }))
  -- one that counts nothing, where a read pair stands
  pub read-not-counted : (s : Config) → NoTally s (0xA0000 ∷ 0xC0000 ∷ []) (Ok no_counts)
  -- one that lets a word with PD low open a pair: two words 0 are no refresh
  pub low-word-opens : (s : Config) (c : CommandCounts) → c.refreshes ≡ 1 → NoTally s (0 ∷ 0 ∷ []) (Ok c)

-- no contract lets an advance over ws answer so and leave the checker `after`: not those of `next_word` and `advance_through`, and not
-- that of `advance`, which promises the same of its checker
abbrev pub NoMove : Checker → List ℕ → Result Progress Refusal → Checker → Type 0
NoMove s ws p after = MovePromised s ws (record { progress = p; checker = after }) → ⊥

-- wrong walks
pub record Walks : Type 0 where
  -- one that says end while words are left: at any state
  pub end-early : (s after : Checker) (ws : List ℕ) → s.clock < length ws → NoMove s ws (Ok Progress.End) after
  -- one that says anything else where none is left, and the sheet and the state are not refused
  pub end_unsaid : (s after : Checker) (ws : List ℕ) (t : Timing) (p : Result Progress Refusal) → length ws ≤ s.clock
      → timing_of s.config ≡ value t → clock_fits s.clock s.met s.stamps ≡ true → (p ≡ Ok Progress.End → ⊥) → NoMove s ws p after
  -- one that says that its word passed, and does not stand one on afterwards
  pub passed-place : (s after : Checker) (ws : List ℕ) → (after.clock ≡ s.clock + 1 → ⊥) → NoMove s ws (Ok Progress.Passed) after
  -- one that says anything else, and does not stand where it was
  pub other_place : (s after : Checker) (ws : List ℕ) (p : Result Progress Refusal) → (p ≡ Ok Progress.Passed → ⊥)
      → (after.clock ≡ s.clock → ⊥) → NoMove s ws p after

-- no two arguments have one value
abbrev pub Injective : {A B : Type 0} → (A → B) → Type 0
Injective {A} f = (x y : A) → f x ≡ f y → x ≡ y

-- calls whose contract would leave something open. The contracts speak of an answer in the paper's terms, and nothing is lost by that:
-- two answers that are the same there are the same.
pub record Answers : Type 0 where
  pub refusal : Injective refusal_number
  -- `word_breach`, which `judge` and the steps go by
  pub breach : Injective breach_number
  -- `Config::timing`, `read_pair`, `write_pair`
  pub timing : Injective (outcome_of {A = Timing})
  pub read : Injective (outcome_of {A = Decoded})
  pub write : Injective (outcome_of {A = Pair})
  -- `check`, `check_bytes`; with the state, `Checker::step`
  pub verdict : Injective verdict_outcome
  pub step : Injective stepped
  -- `check_within`
  pub within : Injective finding_outcome
  -- `trace_duration`
  pub duration : Injective (outcome_of {A = Duration})
  -- `count_commands`, and `turn`, by which it goes
  pub counting : Injective counting_outcome
  pub turn : (at : ℕ) → Injective (turn_outcome at)
  -- the calls on a borrowed controller; with the state, `Controller::offer` and `Controller::tick`
  pub call : Injective call_outcome
  pub offer : Injective offered
  pub tick : Injective ticked
  -- `advance`; with the state, `next_word` and `advance_through`
  pub progress : Injective progress_outcome
  pub move : Injective moved

-- the theorem
pub record Excluded : Type 0 where
  pub controllers : Controllers
  pub examiners : Examiners
  pub tallies : Tallies
  pub walks : Walks
  pub answers : Answers
  -- beside those that the paper names: of the calls that are proved by hand, whose proofs fit no other code
  pub calls : Calls
  pub cursors : Cursors
