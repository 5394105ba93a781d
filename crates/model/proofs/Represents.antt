-- A controller's state stands for how far the calls have come: an offer, and a tick that is handed any choice, lead from the one as from
-- the other. No ground of 19 holds of such a state; what its timestamps and its open pair come to is Image's.
use Prim.Native.Nat.{ℕ, zero, suc, ◌+◌, ◌-◌, ◌≤◌, ◌<◌}
use mathlib.Core.Path.{◌≡◌, refl, sym, ◌∙◌, ap, subst⁻¹}
use mathlib.Core.Bool.{true, false, cond, ◌&&◌, and-false, false≢true}
use mathlib.Core.List.{List, [], ◌∷◌, append_assoc}
use native.Mathlib.Omega.{arith}
use borrow.Author.Tests.{lt-ltb, le-ltb, le-leb, ne_eqb}
use lib.ListN.{length, length-append, replicate}
use lib.Seq.{take-append_seam, set-append_seam}
use lib.Dec.{eqb, ltb}
use Rattle.basics.specs.Outcome.{value}
use Rattle.config.specs.Configuration.{timing_of}
use Rattle.config.specs.declared.Config.{Config}
use Rattle.config.specs.declared.Timing.{Timing}
use Rattle.writing.specs.Writing.{pair_of, request_fits}
use Rattle.command.specs.declared.operation.Request.{Request}
use Rattle.command.specs.declared.operation.Operation.{Operation}
use Rattle.rules.specs.History.{ClosedPair, free}
use Rattle.stamps.specs.Stamps.{remembered}
use Rattle.rules.proofs.Newest.{Ordered}
use Rattle.rules.proofs.Summary.{summary, summary-step}
use Rattle.rules.proofs.Words.{ordered_mono}
use Rattle.checker.proofs.Before.{fits}
use Rattle.model.specs.Laid.{entry_at, Course}
use Rattle.model.specs.Laid as laid
use Rattle.queue.specs.Queue.{vacant, all_fit, request_at}
use Rattle.scheduler.specs.Pairs.{pair_words, of_waiting, place_of, chosen_at, next_pair}
use Rattle.controller.specs.Steps.{Offer, held, state_fits, joined, not_offered, offer_of, passes, not_ticked, tick_choosing}
use Rattle.model.specs.Runs.{is_access, access_open}
use Rattle.controller.specs.declared.Controller.{Controller}
use Rattle.scheduler.specs.declared.OpenPair.{OpenPair}
use Rattle.scheduler.specs.declared.OpenPair.TheVariants.{Nothing}
use Rattle.model.proofs.Figures.{Figures}
use Rattle.model.proofs.Candidates.{AllFit, entry-fits, candidate-due}
use Rattle.model.proofs.Prompt.{Awaited, requests}
use Rattle.model.proofs.Turn.{idle}
use Rattle.model.proofs.Choice.{Kind, all-fit, fit-back}
use Rattle.model.proofs.Going.{opening-due, in_pair, at_rest, Going, between, within}
use Rattle.model.proofs.Image.{
  stands_for,
  pair_in,
  is_some,
  words_in,
  open_in,
  waiting_in,
  first_in,
  behind,
  Placed,
  none-placed,
  either-placed,
  OfWaiting,
  of-waiting_test,
  same_open,
  due-waiting,
  Left,
  left,
  image,
  next-is,
  next-placed,
  opens-is,
}

-- what 19 asks of how far the calls have come
module _ (t : Timing) (f : Figures t) (g : Kind t) where
  ordered : (x : Course) (xs : List Awaited) → Going t f g x xs → Ordered x.past.clock x.past.pairs
  ordered x xs (between b) = rw b.at b.ordered
  ordered x xs (within w) = rw w.at (ordered_mono w.start (w.start + 1) (omega arith) w.pairs w.ordered)

  begun : (x : Course) (xs : List Awaited) → Going t f g x xs → (eqb x.past.clock 0 && is_some x.opened) ≡ false
  begun x xs (between b) = rw (b.at, and-false)
  begun x xs (within w) = rw (w.at, ne_eqb (w.start + 1) 0 (λ q. omega arith))

  all_in_range : (x : Course) (xs : List Awaited) → Going t f g x xs → all_fit t x.waiting ≡ true
  all_in_range x xs (between b) = rw b.at (all-fit t (requests xs) b.queue.fit)
  all_in_range x xs (within w) =
      let rest = subst⁻¹ (AllFit t) w.leaves w.queue.fit in
      rw w.at (all-fit t w.waiting (fit-back t w.operation w.place w.waiting w.chosen w.fits rest))

-- the open pair p stands for the one that is open, and of sixteen places n are vacant
pub record Stands (x : Course) (p : OpenPair) (n : ℕ) : Type 0 where
  pub room : length x.waiting + n ≡ 16
  pub operation : stands_for p x.waiting ≡ x.opened
  pub of-waiting : OfWaiting p x.waiting
  pub placed : Placed x.place p

module _ (c : Config) (t : Timing) where
  -- the state is the one that stands for this
  pub record Represents (s : Controller) (x : Course) : Type 0 where
    pub opened : OpenPair
    pub spare : ℕ
    pub state : s ≡ image c t x opened spare
    pub stands : Stands x opened spare

  -- what the state holds waiting is what waits
  pub held-is : (s : Controller) (x : Course) → Represents s x → held s ≡ x.waiting
  held-is s x r = ap held r.state ∙ take-append_seam x.waiting (replicate r.spare vacant)

  -- an accepted request joins the queue
  joined-image : (x : Course) (p : OpenPair) (n : ℕ) (q : Request) → joined (image c t x p (suc n)) q ≡ image c t (laid.queued x q) p n
  joined-image x p n q =
      let rs = x.waiting in
      let places = set-append_seam rs vacant (replicate n vacant) q ∙ sym (append_assoc rs (q ∷ []) (replicate n vacant)) in
      let count = sym (length-append rs (q ∷ [])) in
      rw (places, count)

  pub offer-represents : (s : Controller) (x : Course) (q : Request) → Represents s x → length x.waiting < 16
      → Represents (joined s q) (laid.queued x q)
  offer-represents s x q r few = go r.spare r.state r.stands
    where
      go : (n : ℕ) → s ≡ image c t x r.opened n → Stands x r.opened n → Represents (joined s q) (laid.queued x q)
      go zero e h =
          let room = h.room in
          absurd (omega arith)
      go (suc n) e h =
          let room = h.room in
          let one = length-append x.waiting (q ∷ []) in
          record {
            opened = r.opened;
            spare = n;
            state = ap (λ s. joined s q) e ∙ joined-image x r.opened n q;
            stands =
                record {
                  room = omega arith;
                  operation = same_open r.opened x.waiting q h.of-waiting ∙ h.operation;
                  of-waiting =
                      λ o.
                      let low = h.of-waiting o in
                      omega arith;
                  placed = h.placed;
                };
          }

  -- an accepted tick that is handed this place gives this word and leads to this
  pub record Ticks (s : Controller) (q : ℕ) (a : laid.Advance) : Type 0 where
    pub after : Controller
    pub tick : tick_choosing t s q ≡ record { outcome = value tt; word = a.word; after = after }
    pub represents : Represents after a.after

-- an offer, where 26 and 27 are all that it can be refused for
abbrev pub refusing : Timing → Controller → List Request → Request → Offer
refusing t s rs q =
    cond (request_fits t q) (cond (ltb (length rs) 16) (record { outcome = value tt; after = joined s q }) (not_offered s 27))
    (not_offered s 26)

module _ (c : Config) (t : Timing) (is : timing_of c ≡ value t) (f : Figures t) (kd : Kind t) where
  -- the state is one that calls make, so 19 has no ground
  state-fits : (x : Course) (xs : List Awaited) (p : OpenPair) (n : ℕ) → Going t f kd x xs → x.past.clock ≤ 16777216 → Stands x p n
      → state_fits t (image c t x p n) ≡ true
  state-fits x xs p n g low h =
      let rs = x.waiting in
      let room = h.room in
      rw (
        fits t.four free x.past.clock x.past.pairs (omega arith, ordered t f kd x xs g) low,
        open_in p rs,
        h.operation,
        begun t f kd x xs g,
        le-leb (length rs) 16 (omega arith),
        take-append_seam rs (replicate n vacant),
        all_in_range t f kd x xs g,
        of-waiting_test p rs h.of-waiting,
      )

  pub offer-is : (s : Controller) (x : Course) (xs : List Awaited) (q : Request) → Represents c t s x → Going t f kd x xs
      → x.past.clock ≤ 16777216 → offer_of s q ≡ refusing t s x.waiting q
  offer-is s x xs q r g low =
      subst⁻¹ (λ s. offer_of s q ≡ refusing t s x.waiting q) r.state
      (rw (is, state-fits x xs r.opened r.spare g low r.stands))

  -- where no pair is open
  starts_as : (q : ℕ) (ps : List ClosedPair) (k i : ℕ) (xs : List Awaited) (p : OpenPair) (n : ℕ) → Ordered k ps → AllFit t (requests xs)
      → let x = at_rest k ps i (requests xs) in
      Going t f kd x xs → k < 16777216 → Stands x p n → Ticks c t (image c t x p n) q (laid.tick_at q t x)
  starts_as q ps k i xs p n o a g low h =
      let rs = requests xs in
      let x = at_rest k ps i rs in
      let y = entry_at q rs in
      let asked = laid.candidate t (idle k ps) y in
      let opening = laid.opening t (idle k ps) asked in
      let in-range = candidate-due t (idle k ps) y (entry-fits t q rs a) in
      let due = (opening-due t y (idle k ps) asked in-range).0 in
      let next = next_pair t (summary t.four ps) k (chosen_at q (length rs)) in
      let pass = passes t (summary t.four ps) k (pair_words t next (request_at q rs)) in
      let opens = cond pass next Nothing in
      let at = next-placed t ps k q (length rs) in
      let placed : Placed q opens = either-placed q pass next Nothing at (none-placed q) in
      let same : stands_for opens rs ≡ opening = opens-is t ps k f q rs y next asked o in-range at (next-is t ps k q rs) in
      let word : (pair_words t opens (request_at q rs)).first ≡ laid.first_word t opening =
      ap (λ w. w.first) (words_in t q opens rs placed) ∙ ap (λ y. (pair_in t y).first) same ∙ first_in t opening in
      let of-request : of_waiting opens ≡ true → access_open opening ≡ true = λ w. sym (ap access_open same) ∙ sym (waiting_in opens rs) ∙ w in
      record {
        after = image c t (laid.tick_at q t x).after opens n;
        tick =
            rw (
              state-fits x xs p n g (omega arith) h,
              lt-ltb k 16777216 low,
              open_in p rs,
              h.operation,
              behind rs n q,
              word,
            );
        represents =
            record {
              opened = opens;
              spare = n;
              state = refl;
              stands =
                  record {
                    room = h.room;
                    operation = same;
                    of-waiting = λ w. subst⁻¹ (λ j. j < length rs) (placed w) (due-waiting t q rs opening due (of-request w));
                    placed = placed;
                  };
            };
      }

  -- where one is
  closes_as : (q : ℕ) (ps : List ClosedPair) (u : ℕ) (o : Operation) (i : ℕ) (rs : List Request) (xs : List Awaited) (p : OpenPair) (n : ℕ)
      → Left o i (place_of p) rs n → let x = in_pair t u o ps i rs in
      Going t f kd x xs → u + 1 < 16777216 → Stands x p n → Ticks c t (image c t x p n) q (laid.tick_at q t x)
  closes_as q ps u o i rs xs p n l g low h =
      let x = in_pair t u o ps i rs in
      let w = pair_of t o in
      let kind : of_waiting p ≡ is_access o = waiting_in p rs ∙ ap access_open h.operation in
      let stamps = summary t.four ps in
      let from : u + 1 - 1 + 1 ≡ u + 1 = omega arith in
      let kept : remembered t.four stamps (u + 1) w.first w.second ≡ summary t.four (laid.tick_at q t x).after.past.pairs =
      sym
      (summary-step t.four (u + 1 - 1) w.first w.second ps
      ∙ ap (λ k. remembered t.four stamps k w.first w.second) from) in
      let words : pair_words t p (request_at (place_of p) rs) ≡ w = words_in t (place_of p) p rs (λ a. refl) ∙ ap (pair_in t) h.operation in
      record {
        after = image c t (laid.tick_at q t x).after Nothing l.vacancies;
        tick =
            rw (
              state-fits x xs p n g (omega arith) h,
              lt-ltb (u + 1) 16777216 low,
              open_in p rs,
              h.operation,
              behind rs n (place_of p),
              words,
              kind,
              kept,
              l.queue,
              l.count,
            );
        represents =
            record {
              opened = Nothing;
              spare = l.vacancies;
              state = refl;
              stands = record { room = l.total; operation = refl; of-waiting = λ w. absurd (false≢true w); placed = none-placed i };
            };
      }

  abbrev Leads : ℕ → List Awaited → OpenPair → ℕ → Course → Type 0
  Leads q xs p n x =
      Going t f kd x xs → x.past.clock < 16777216 → Stands x p n → Ticks c t (image c t x p n) q (laid.tick_at q t x)

  leads : (q : ℕ) (x : Course) (xs : List Awaited) (p : OpenPair) (n : ℕ) → Going t f kd x xs → Leads q xs p n x
  leads q x xs p n (between b) =
      subst⁻¹ (Leads q xs p n) b.at (starts_as q b.pairs b.clock b.place xs p n b.ordered b.queue.fit)
  leads q x xs p n (within w) =
      let o = w.operation in
      let rs = w.waiting in
      subst⁻¹ (Leads q xs p n) w.at
      (λ g low h.
      let kind = waiting_in p rs ∙ ap access_open h.operation in
      let l = left o w.place (place_of p) rs n w.chosen (λ a. h.placed (kind ∙ a)) h.room in
      closes_as q w.pairs w.start o w.place rs xs p n l g low h)

  -- a tick that is handed the choice of the request at place q
  pub tick-represents : (q : ℕ) (s : Controller) (x : Course) (xs : List Awaited) → Represents c t s x → Going t f kd x xs
      → x.past.clock < 16777216 → Ticks c t s q (laid.tick_at q t x)
  tick-represents q s x xs r g low =
      subst⁻¹ (λ s. Ticks c t s q (laid.tick_at q t x)) r.state (leads q x xs r.opened r.spare g g low r.stands)

  -- at the limit a tick is refused, whatever is chosen
  pub tick-ends : (q : ℕ) (s : Controller) (x : Course) (xs : List Awaited) → Represents c t s x → Going t f kd x xs
      → x.past.clock ≡ 16777216 → tick_choosing t s q ≡ not_ticked s 24
  tick-ends q s x xs r g end =
      subst⁻¹ (λ s. tick_choosing t s q ≡ not_ticked s 24) r.state
      (rw (state-fits x xs r.opened r.spare g (omega arith) r.stands, le-ltb x.past.clock 16777216 (omega arith)))
