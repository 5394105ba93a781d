-- Demand 3, over all configurations and all lists of calls: each sentence is read off what every list keeps. On a refused configuration no
-- call does anything.
use Prim.Native.Nat.{ℕ, ◌+◌, ◌-◌, ◌≤◌, ◌<◌}
use mathlib.Core.Path.{◌≡◌, refl, sym, ◌∙◌, ap, ap₂, subst, subst⁻¹}
use mathlib.Core.Bool.{Bool, true, false, cond, false≢true}
use mathlib.Core.List.{List, [], ◌∷◌, ◌++◌, map}
use mathlib.Core.Option.{Option, none, some}
use native.Mathlib.Omega.{arith}
use borrow.Author.Tests.{ltb-true, ltb-false}
use lib.ListN.{length, get_or}
use lib.Dec.{ltb}
use Rattle.basics.specs.Outcome.{Outcome, value, refused, require}
use Rattle.config.specs.Configuration.{timing_of}
use Rattle.config.specs.declared.Config.{Config}
use Rattle.config.specs.declared.Timing.{Timing}
use Rattle.basics.proofs.Outcomes.{same_number, Not, value_not, require-not}
use Rattle.config.proofs.Accepted.{accepted, config-below}
use Rattle.writing.specs.Writing.{request_fits}
use Rattle.command.specs.declared.operation.Request.{Request}
use Rattle.command.specs.declared.operation.Operation.{Operation}
use Rattle.model.specs.Laid as laid
use Rattle.controller.specs.States.{fresh}
use Rattle.controller.specs.Steps.{held, joined, not_offered, offer_of, tick_of}
use Rattle.rules.specs.Turns.{pairs_of, requests_of, starts}
use Rattle.model.specs.Runs.{
  Call,
  offer,
  tick,
  Accepted,
  Run,
  called,
  run_from,
  run,
  Prescribed,
  prescribed,
  access_open,
  first_words,
  latest_start,
}
use Rattle.model.specs.Demand3.{Holds, Demand3}
use Rattle.controller.specs.declared.Controller.{Controller}
use Rattle.scheduler.specs.declared.OpenPair.TheVariants.{Nothing}
use Rattle.model.proofs.Figures.{Figures, figures}
use Rattle.model.proofs.Fulfilled.{Met, bounds_of, met_at}
use Rattle.model.proofs.Places.{only-all}
use Rattle.model.proofs.Choice.{open_start, firsts_of}
use Rattle.model.proofs.Offered.{none_passed}
use Rattle.model.proofs.Image.{none-placed}
use Rattle.model.proofs.Runs.{closing_bound, start-upheld}
use Rattle.model.proofs.Oldest.{access_kind, all, Kept, is_held, offer_comes, tick_gives, tick-over, all-kept}

module _ (c : Config) (t : Timing) (is : timing_of c ≡ value t) (f : Figures t) where
  start-kept : Kept c t is f (record { words = []; accepted = []; controller = fresh c }) (record { words = []; course = laid.start })
  start-kept =
      record {
        words = refl;
        represents =
            record {
              opened = Nothing;
              spare = 16;
              state = refl;
              stands = record { room = refl; operation = refl; of-waiting = λ w. absurd (false≢true w); placed = none-placed 0 };
            };
        awaited = [];
        ranks = tt;
        upheld = start-upheld t f (all t f) 0;
      }

  module _ (r : Run) (k : Prescribed) (h : Kept c t is f r k) where
    abbrev s : Controller
    s = r.controller

    abbrev x : laid.Course
    x = k.course

    pairs_are : pairs_of r.words ≡ x.past.pairs
    pairs_are = ap pairs_of h.words ∙ sym (ap (λ p. p.pairs) h.upheld.past)

    firsts_are : first_words r.words x.opened ≡ firsts_of t (all t f) x
    firsts_are =
        let at : length r.words ≡ x.past.clock = ap length h.words ∙ sym h.upheld.clock in
        rw (pairs_are, at) (ap (λ us. starts x.past.pairs ++ us) (open_start_lem x.opened x.past.clock))
      where
        open_start_lem : (o : Option Operation) (n : ℕ) → cond (access_open o) ((n - 1) ∷ []) [] ≡ open_start (λ r. true) o n
        open_start_lem none n = refl
        open_start_lem (some o) n = ap (λ b. cond b ((n - 1) ∷ []) []) (access_kind o)

    prompt : (older newer : List Accepted) (a : Accepted) → r.accepted ≡ older ++ a ∷ newer → latest_start t a < length r.words
        → let firsts = first_words r.words x.opened in
        (length older < length firsts) × (get_or firsts (length older) 0 ≤ latest_start t a)
    prompt older newer a e late =
        let at = h.upheld.clock in
        let same = ap length h.words in
        let firsts = firsts_of t (all t f) x in
        let bound = closing_bound t f (all t f) 0 in
        let bounds = bounds_of (λ r. true) h.awaited in
        let met = subst (λ ones. Met firsts (map bound ones) bounds) (only-all r.accepted ∙ e) h.upheld.met in
        let none-added : a.ahead + 0 ≡ a.ahead = omega arith in
        let is_bound : bound a ≡ latest_start t a + 1 = rw none-added in
        let after = none_passed t f (all t f) x h.awaited h.upheld.going in
        let m = met_at bound (x.past.clock + 1) a newer bounds (omega arith) after older firsts met in
        let by = m.1 in
        subst⁻¹ (λ us. (length older < length us) × (get_or us (length older) 0 ≤ latest_start t a)) firsts_are (m.0, omega arith)

    offer-refused : (q : Request)
        → (offer_of s q).outcome ≡ require (request_fits t q) 26 (require (ltb (length (held s)) 16) 27 (value tt))
    offer-refused q = rw (is_held c t is f r k h, offer_comes c t is f r k h q) (by (request_fits t q) (ltb (length x.waiting) 16))
      where
        by : (b d : Bool) → (cond b (cond d (record { outcome = value tt; after = joined s q }) (not_offered s 27)) (not_offered s 26)).outcome
            ≡ require b 26 (require d 27 (value tt))
        by true true = refl
        by true false = refl
        by false d = refl

    tick-refused : (tick_of s).outcome ≡ require (ltb (length r.words) 16777216) 24 (value tt)
    tick-refused = rw h.words (by (ltb (length k.words) 16777216) refl)
      where
        by : (b : Bool) → ltb (length k.words) 16777216 ≡ b → (tick_of s).outcome ≡ require b 24 (value tt)
        by true e = ap (λ y. y.outcome) (tick_gives c t is f r k h (ltb-true (length k.words) 16777216 e))
        by false e = ap (λ y. y.outcome) (tick-over c t is f r k h (ltb-false (length k.words) 16777216 e))

  from-kept : (calls : List Call) (r : Run) → Kept c t is f r (prescribed t calls) → Holds t calls r
  from-kept calls r h =
      let k = prescribed t calls in
      record {
        laid_down = h.words;
        sound = rw h.words h.upheld.sound;
        in_order =
            ap₂ (λ ps rs. requests_of t ps ++ rs) (pairs_are r k h) (is_held c t is f r k h)
            ∙ sym (ap₂ (λ out rs. out ++ rs) (only-all (requests_of t k.course.past.pairs)) (only-all k.course.waiting))
            ∙ h.upheld.order
            ∙ ap (map (λ a. a.request)) (only-all r.accepted);
        prompt = prompt r k h;
        offer-refused = offer-refused r k h;
        tick-refused = tick-refused r k h;
      }

holds : (c : Config) (t : Timing) → timing_of c ≡ value t → (calls : List Call) → Holds t calls (run c calls)
holds c t is calls =
    let a = accepted c t is in
    let f = subst Figures a.1 (figures c a.0) in
    from-kept c t is f calls (run c calls) (all-kept c t is f _ _ calls (start-kept c t is f))

-- a controller on a refused configuration stays as it is
refused-stays : (n : ℕ) (r : Run) (calls : List Call) → timing_of r.controller.config ≡ refused n
    → (run_from r calls).controller ≡ r.controller
refused-stays n r [] e = refl
refused-stays n r (tick ∷ calls) e =
    let same : (called r tick).controller ≡ r.controller = rw e in
    refused-stays n (called r tick) calls (subst⁻¹ (λ s. timing_of s.config ≡ refused n) same e) ∙ same
refused-stays n r (offer q ∷ calls) e =
    let same : (called r (offer q)).controller ≡ r.controller = rw e in
    refused-stays n (called r (offer q)) calls (subst⁻¹ (λ s. timing_of s.config ≡ refused n) same e) ∙ same

module _ (c : Config) (calls : List Call) where
  abbrev end : Controller
  end = (run c calls).controller

  -- on a refused configuration every call is refused as the fresh one refuses it
  config-refuses : (n : ℕ) → timing_of c ≡ refused n → Not {A = Unit {0}} 19 (refused n)
  config-refuses n is e = config-below c 19 (omega arith) (is ∙ ap refused (same_number e))

  offered-19 : (q : Request) (o : Outcome Timing) → timing_of c ≡ o → Not 19 (offer_of end q).outcome
  offered-19 q (value t) is =
      subst⁻¹ (Not 19) ((holds c t is calls).offer-refused q)
      (require-not (request_fits t q) 26 19 _ (λ e. omega arith)
      (require-not (ltb (length (held end)) 16) 27 19 _ (λ e. omega arith) (value_not 19 tt)))
  offered-19 q (refused n) is =
      subst⁻¹ (λ s. Not 19 (offer_of s q).outcome) (refused-stays n _ calls is) (rw is (config-refuses n is))

  ticked-19 : (o : Outcome Timing) → timing_of c ≡ o → Not 19 (tick_of end).outcome
  ticked-19 (value t) is =
      subst⁻¹ (Not 19) (holds c t is calls).tick-refused
      (require-not (ltb (length (run c calls).words) 16777216) 24 19 _ (λ e. omega arith) (value_not 19 tt))
  ticked-19 (refused n) is = subst⁻¹ (λ s. Not 19 (tick_of s).outcome) (refused-stays n _ calls is) (rw is (config-refuses n is))

-- every sentence, for every sheet and every list of calls
pub demand_3 : Demand3
demand_3 =
    record {
      holds = holds;
      offer-never-19 = λ c calls q. offered-19 c calls q (timing_of c) refl;
      tick-never-19 = λ c calls. ticked-19 c calls (timing_of c) refl;
    }
