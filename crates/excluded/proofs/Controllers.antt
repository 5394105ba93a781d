-- Words that put nothing out have no first word but one at their last clock, if a pair is open there. Words that put out something else
-- differ at a place before the requests that the controller holds. The calls go by rows of refusals.
use Prim.Native.Nat.{ℕ, zero, suc, ◌+◌, ◌-◌, ◌≤◌, ◌<◌}
use mathlib.Core.Path.{◌≡◌, refl, sym, ◌∙◌, ap}
use mathlib.Core.Bool.{Bool, true, false, cond, false≢true}
use mathlib.Core.List.{List, [], ◌∷◌, ◌++◌}
use native.Mathlib.Omega.{arith}
use borrow.Author.Tests.{lt-ltb, ltb-true}
use lib.ListN.{length, get_or, replicate, length-append, get_or-append}
use lib.Dec.{ltb}
use Rattle.basics.specs.Outcome.{Outcome, value, refused, require, given}
use Rattle.config.specs.Configuration.{institute, derived, timing_of}
use Rattle.config.specs.declared.Timing.{Timing}
use Rattle.basics.specs.declared.refusal.Refusal.TheVariants.{ClockLimit, Field, QueueFull}
use Rattle.basics.proofs.Outcomes.{require-value, given-value, value_not, require-not, given-not}
use Rattle.writing.specs.Writing.{request_fits}
use Rattle.command.specs.declared.operation.Request.{Request}
use Rattle.rules.specs.History.{ClosedPair, free, past_from}
use Rattle.queue.specs.Queue.{vacant}
use Rattle.scheduler.specs.Pairs.{is_open}
use Rattle.controller.specs.Steps.{
  CallAnswer,
  held,
  call_outcome,
  state_fits,
  joined,
  offer_if,
  offer_by,
  offer_of,
  closing,
  starting,
  tick_if,
  tick_by,
  tick_of,
}
use Rattle.controller.specs.declared.Controller.{Controller}
use Rattle.std.specs.Prelude.{Ok, Err}
use Rattle.rules.specs.Turns.{pairs_of, starts}
use Rattle.model.specs.Runs.{Call, offer, tick, Accepted, Run, prescribed, access_open, latest_start}
use Rattle.forms.specs.EitherForm.{Form, by_value, borrowed, Promised}
use Rattle.excluded.specs.Calls.{Never}
use Rattle.model.specs.Demand3.{put_out, taken, InOrder, Prompt}
use Rattle.excluded.specs.Excluded.{idle_calls, idle_run, faked_run, Controllers}
use Rattle.config.proofs.Accepted.{config-between}

nothing-out : (t : Timing) (calls : List Call) (r : Run) (a : Accepted) (newer : List Accepted) → r.accepted ≡ a ∷ newer
    → starts (pairs_of r.words) ≡ [] → latest_start t a + 1 < length r.words → Prompt t calls r → ⊥
nothing-out t calls r a newer e empty late h =
    by (access_open (prescribed t calls).course.opened) (rw empty at (h [] newer a e (omega arith)))
  where
    by : (b : Bool) → let firsts = cond b ((length r.words - 1) ∷ []) [] in (0 < length firsts) × (get_or firsts 0 0 ≤ latest_start t a) → ⊥
    by true p = omega arith
    by false p = omega arith

-- and none at all, if none is open
none_open : (t : Timing) (calls : List Call) (r : Run) (a : Accepted) (newer : List Accepted) → r.accepted ≡ a ∷ newer
    → starts (pairs_of r.words) ≡ [] → access_open (prescribed t calls).course.opened ≡ false → latest_start t a < length r.words
    → Prompt t calls r → ⊥
none_open t calls r a newer e empty closed late h = omega (arith, rw (empty, closed) at (h [] newer a e late).0)

-- DESL closes no pair
desls_close : (n k : ℕ) (ps : List ClosedPair)
    → (past_from (record { clock = k; phase = free; pairs = ps }) (replicate n 0xC0000)).pairs ≡ ps
desls_close zero k ps = refl
desls_close (suc n) k ps = desls_close n (k + 1) ps

only_one : (x a : Accepted) (older newer : List Accepted) → x ∷ [] ≡ older ++ a ∷ newer → a ≡ x
only_one x a [] newer e = cc
only_one x a (o ∷ older) newer e = absurd (omega (arith, simp length-append at (ap length e)))

another_request : (t : Timing) (r : Run) (n : ℕ) → n < length (put_out t r)
    → (get_or (put_out t r) n vacant ≡ get_or (taken r) n vacant → ⊥) → InOrder t r → ⊥
another_request t r n l h e = h (sym (get_or-append (put_out t r) (held r.controller) vacant n l) ∙ ap (λ rs. get_or rs n vacant) e)

-- what an offer answers behind the sheet's refusals
abbrev offer_answer : Controller → Request → Timing → Outcome (Unit {0})
offer_answer s q t = require (state_fits t s) 19 (require (request_fits t q) 26 (require (ltb s.count 16) 27 (value tt)))

offer-is : (s : Controller) (q : Request) → (offer_of s q).outcome ≡ given (timing_of s.config) (offer_answer s q)
offer-is s q = go (timing_of s.config)
  where
    by : (a b d : Bool) → (offer_if a 19 s (offer_if b 26 s (offer_if d 27 s (record { outcome = value tt; after = joined s q })))).outcome
        ≡ require a 19 (require b 26 (require d 27 (value tt)))
    by true true true = refl
    by true true false = refl
    by true false d = refl
    by false b d = refl

    go : (o : Outcome Timing) → (offer_by o s q).outcome ≡ given o (offer_answer s q)
    go (value t) = by (state_fits t s) (request_fits t q) (ltb s.count 16)
    go (refused n) = refl

no_offer : (s after : Controller) (q : Request) (a : CallAnswer) → (given (timing_of s.config) (offer_answer s q) ≡ call_outcome a → ⊥)
    → Never s (offer q) a 0 after
no_offer s after q a h form p = h (sym (offer-is s q) ∙ sym (outcome form p))
  where
    outcome : (form : Form) → Promised form s (offer q) a 0 after → call_outcome a ≡ (offer_of s q).outcome
    outcome by_value p = ap (λ o. o.outcome) p
    outcome borrowed p = ap (λ o. o.outcome) p

-- the tests that an accepted offer has passed
record Passed (s : Controller) (q : Request) : Type 0 where
  timing : Timing
  accepted : timing_of s.config ≡ value timing
  fits : request_fits timing q ≡ true
  place : ltb s.count 16 ≡ true

passed : (s : Controller) (q : Request) → given (timing_of s.config) (offer_answer s q) ≡ value tt → Passed s q
passed s q e =
    let g = given-value (timing_of s.config) _ e in
    let state = require-value (state_fits g.0 s) _ _ g.2 in
    let field = require-value (request_fits g.0 q) _ _ state.1 in
    record { timing = g.0; accepted = g.1; fits = field.0; place = (require-value (ltb s.count 16) _ _ field.1).0 }

-- and a tick
abbrev tick_answer : Controller → Timing → Outcome (Unit {0})
tick_answer s t = require (state_fits t s) 19 (require (ltb s.clock 16777216) 24 (value tt))

tick_is : (s : Controller) → (tick_of s).outcome ≡ given (timing_of s.config) (tick_answer s)
tick_is s = go (timing_of s.config)
  where
    by : (t : Timing) (a b d : Bool) → (tick_if a 19 s (tick_if b 24 s (cond d (closing t s) (starting t s 0)))).outcome
        ≡ require a 19 (require b 24 (value tt))
    by t true true true = refl
    by t true true false = refl
    by t true false d = refl
    by t false b d = refl

    go : (o : Outcome Timing) → (tick_by o s).outcome ≡ given o (tick_answer s)
    go (value t) = by t (state_fits t s) (ltb s.clock 16777216) (is_open s.opened)
    go (refused n) = refl

no_tick : (s after : Controller) (word : ℕ) (a : CallAnswer) → (given (timing_of s.config) (tick_answer s) ≡ call_outcome a → ⊥)
    → Never s tick a word after
no_tick s after word a h form p = h (sym (tick_is s) ∙ sym (outcome form p))
  where
    outcome : (form : Form) → Promised form s tick a word after → call_outcome a ≡ (tick_of s).outcome
    outcome by_value p = ap (λ k. k.outcome) p
    outcome borrowed p = ap (λ k. k.outcome) p

pub controllers : Controllers
controllers =
    record {
      only-start_up =
          λ desls calls s late.
          nothing-out (derived institute) calls (idle_run desls s) _ [] refl (ap starts (desls_close desls 34 _)) (omega arith);
      at_the_bound = λ s. none_open (derived institute) (idle_calls 230) (idle_run 196 s) _ [] refl refl refl (omega arith);
      not-before = λ s older newer a e late. absurd (omega (arith, rw (only_one _ a older newer e) at late));
      nothing-out = nothing-out;
      faked_rest =
          λ all s e.
          another_request (derived institute) (faked_run all s) 1 (omega arith)
          (λ p. let z : ◌≡◌ {A = ℕ} 0 1 = ap (λ q. q.row) p ∙ ap (λ rs. (get_or rs 1 vacant).row) e in omega arith);
      faked_sound = refl;
      another_request = another_request;
      request_lost = λ t r h e. omega (arith, length-append (put_out t r) (held r.controller), ap length e);
      offer-27 =
          λ s after q h.
          no_offer s after q (Err QueueFull)
          (given-not 27 (timing_of s.config) (offer_answer s q) (config-between s.config 27 (omega arith) (omega arith))
          (λ t. require-not (state_fits t s) 19 27 _ (λ e. omega arith)
          (require-not (request_fits t q) 26 27 _ (λ e. omega arith) (rw (lt-ltb s.count 16 (omega arith)) (value_not 27 tt)))));
      offer-26 =
          λ s after q t is fits.
          no_offer s after q (Err Field)
          (rw (is, fits)
          (require-not (state_fits t s) 19 26 _ (λ e. omega arith)
          (require-not (ltb s.count 16) 27 26 _ (λ e. omega arith) (value_not 26 tt))));
      tick-24 =
          λ s after word h.
          no_tick s after word (Err ClockLimit)
          (given-not 24 (timing_of s.config) (tick_answer s) (config-between s.config 24 (omega arith) (omega arith))
          (λ t. require-not (state_fits t s) 19 24 _ (λ e. omega arith) (rw (lt-ltb s.clock 16777216 (omega arith)) (value_not 24 tt))));
      offer-past-27 =
          λ s after q h.
          no_offer s after q (Ok tt) (λ e. let l = ltb-true s.count 16 (passed s q e).place in omega arith);
      offer-past-26 =
          λ s after q t is wrong.
          no_offer s after q (Ok tt)
          (λ e. let h = passed s q e in
          let same : h.timing ≡ t = cc h.accepted in
          false≢true (sym wrong ∙ ap (λ t. request_fits t q) (sym same) ∙ h.fits));
      tick-past-24 =
          λ s after word h.
          no_tick s after word (Ok tt)
          (λ e. let g = given-value (timing_of s.config) _ e in
          let state = require-value (state_fits g.0 s) _ _ g.2 in
          let l = ltb-true s.clock 16777216 (require-value (ltb s.clock 16777216) _ _ state.1).0 in
          omega arith);
    }
