-- What every list of calls keeps, of what is laid down and of the requests that were accepted, whatever the choice and whatever controller
-- gives and accepts them: a tick by Going, an accepted offer by Offered.
use Prim.Native.Nat.{ℕ, zero, suc, ◌+◌, ◌≤◌, ◌<◌}
use mathlib.Core.Path.{◌≡◌, refl, sym, ◌∙◌, ap, subst}
use mathlib.Core.Bool.{Bool, true, false, cond}
use mathlib.Core.List.{List, [], ◌∷◌, ◌++◌, map, map-append, append-nil, append_assoc}
use mathlib.Core.Option.{Option, none, some}
use native.Mathlib.Omega.{arith}
use lib.ListN.{length, length-append}
use Rattle.config.specs.declared.Timing.{Timing}
use Rattle.writing.specs.Writing.{request_fits}
use Rattle.command.specs.declared.operation.Request.{Request}
use Rattle.command.specs.declared.operation.Operation.{Operation}
use Rattle.rules.specs.History.{Past, nothing, extend, past_from}
use Rattle.rules.specs.Rules.{breach_at}
use Rattle.rules.specs.Verdict.{Judgement, accepted, breach, lead, judge_from, judge}
use Rattle.rules.proofs.Words.{past_append}
use Rattle.model.specs.Laid as laid
use Rattle.rules.specs.Turns.{requests_of}
use Rattle.model.specs.Runs.{Accepted, Prescribed}
use Rattle.model.proofs.Figures.{Figures}
use Rattle.model.proofs.Fulfilled.{Met, one-asked, bounds_of}
use Rattle.model.proofs.Places.{only, only_append}
use Rattle.model.proofs.Prompt.{Awaited}
use Rattle.model.proofs.Unopened.{bound}
use Rattle.model.proofs.Choice.{Kind, firsts_of, LawfulAt, unopened}
use Rattle.model.proofs.Going.{Going, in_all, tick_goes}
use Rattle.model.proofs.Offered.{offer_goes, start_goes}

abbrev Passed : Judgement → Type 0
Passed accepted = Unit {0}
Passed (breach k n) = ⊥

led : (n k : ℕ) (x y : Judgement) → lead n k x ≡ accepted → (x ≡ accepted → y ≡ accepted) → lead n k y ≡ accepted
led zero k x y e f = f e
led (suc n) k x y e f = absurd (subst Passed (sym e) tt)

judge_snoc : (t : Timing) (p : Past) (ws : List ℕ) (w : ℕ) → judge_from t p ws ≡ accepted → breach_at t (past_from p ws) w ≡ 0
    → judge_from t p (ws ++ (w ∷ [])) ≡ accepted
judge_snoc t p [] w e h = rw h
judge_snoc t p (v ∷ ws) w e h = led (breach_at t p v) p.clock _ _ e (λ r. judge_snoc t (extend p v) ws w r h)

tick-past : (i : ℕ) (t : Timing) (x : laid.Course) → (laid.tick_at i t x).after.past ≡ extend x.past (laid.tick_at i t x).word
tick-past i t x = by x.opened
  where
    by : (o : Option Operation) → (laid.tick_with o i t x).after.past ≡ extend x.past (laid.tick_with o i t x).word
    by none = refl
    by (some o) = refl

-- how far a tick that chose the one at i, and an accepted offer, bring what is laid down
abbrev pub ticked_at : ℕ → Timing → Prescribed → Prescribed
ticked_at i t k =
    let a = laid.tick_at i t k.course in
    record { words = k.words ++ (a.word ∷ []); course = a.after }

-- how far an accepted offer brings what is laid down
abbrev pub offered_at : Prescribed → Request → Prescribed
offered_at k q = record { words = k.words; course = laid.queued k.course q }

-- what is remembered of that request
abbrev pub accepted_at : Prescribed → Request → Accepted
accepted_at k q = record { request = q; ticks = length k.words; ahead = length k.course.waiting }

-- the accepted requests of a kind
abbrev pub those : {t : Timing} → Kind t → List Accepted → List Accepted
those kd all = only (λ a. kd.of a.request) all

-- kd is the kind whose order and bounds are followed; `passings` is how often a request may be passed
module _ (t : Timing) (f : Figures t) (kd : Kind t) (passings : ℕ) where
  -- the bound of an accepted request's closing word
  abbrev pub closing_bound : Accepted → ℕ
  closing_bound a = bound t a.ticks (a.ahead + passings)

  -- what holds of the words that are laid down and the requests that were accepted, whatever controller gives and accepts them; xs are
  -- those that have not opened
  pub record Upheld (k : Prescribed) (all : List Accepted) (xs : List Awaited) : Type 0 where
    pub past : k.course.past ≡ past_from nothing k.words
    pub clock : k.course.past.clock ≡ length k.words
    pub limit : length k.words ≤ 16777216
    pub sound : judge t k.words ≡ accepted
    pub going : Going t f kd k.course xs
    pub order : in_all t f kd k.course ≡ map (λ a. a.request) (those kd all)
    pub met : Met (firsts_of t kd k.course) (map closing_bound (those kd all)) (bounds_of kd.of xs)

  -- a tick below the limit, and what has become of those that had not opened
  pub record Ticked (k : Prescribed) (all : List Accepted) (xs : List Awaited) (i : ℕ) : Type 0 where
    pub left : List Awaited
    pub opens : left ≡ unopened (ticked_at i t k).course.opened i xs
    pub upheld : Upheld (ticked_at i t k) all left

  pub tick-upheld : (k : Prescribed) (all : List Accepted) (xs : List Awaited) (i : ℕ) → Upheld k all xs → LawfulAt t kd k.course xs i
      → length k.words < 16777216 → Ticked k all xs i
  tick-upheld k all xs i h law low =
      let x = k.course in
      let a = laid.tick_at i t x in
      let at = h.clock in
      let g = tick_goes t f kd x xs i law h.going in
      let longer = length-append k.words (a.word ∷ []) in
      let one : a.after.past.clock ≡ x.past.clock + 1 = ap (λ p. p.clock) (tick-past i t x) in
      record {
        left = g.left;
        opens = g.opens;
        upheld =
            record {
              past = tick-past i t x ∙ ap (λ p. extend p a.word) h.past ∙ sym (past_append nothing k.words a.word);
              clock = omega arith;
              limit = omega arith;
              sound = judge_snoc t nothing k.words a.word h.sound (subst (λ p. breach_at t p a.word ≡ 0) h.past g.passes);
              going = g.going;
              order = g.order ∙ h.order;
              met = g.met (map closing_bound (those kd all)) h.met;
            };
      }

  -- an accepted offer: the request is behind the others, with the rank n
  abbrev pub joins : Prescribed → Request → ℕ → Awaited
  joins k q n = record { request = q; rank = n; bound = bound t k.course.past.clock (length k.course.waiting + passings) }

  more-order : (x : laid.Course) (all : List Accepted) (a : Accepted) → in_all t f kd x ≡ map (λ a. a.request) (those kd all)
      → in_all t f kd (laid.queued x a.request) ≡ map (λ a. a.request) (those kd (all ++ (a ∷ [])))
  more-order x all a e =
      rw (
        only_append kd.of x.waiting (a.request ∷ []),
        only_append (λ a. kd.of a.request) all (a ∷ []),
        map-append (λ a. a.request) (those kd all) (those kd (a ∷ [])),
        ← e,
      )
      (go (kd.of a.request))
    where
      out : List Request
      out = only kd.of (requests_of t x.past.pairs)

      go : (b : Bool) → out ++ (only kd.of x.waiting ++ cond b (a.request ∷ []) [])
          ≡ in_all t f kd x ++ map (λ a. a.request) (cond b (a ∷ []) [])
      go true = sym (append_assoc out (only kd.of x.waiting) (a.request ∷ []))
      go false = sym (append_assoc out (only kd.of x.waiting) [])

  more-met : (us : List ℕ) (all : List Accepted) (xs : List Awaited) (a : Accepted) (n B : ℕ) → closing_bound a ≡ B
      → Met us (map closing_bound (those kd all)) (bounds_of kd.of xs)
      → Met us (map closing_bound (those kd (all ++ (a ∷ []))))
      (bounds_of kd.of (xs ++ (record { request = a.request; rank = n; bound = B } ∷ [])))
  more-met us all xs a n B e m =
      rw (
        only_append (λ a. kd.of a.request) all (a ∷ []),
        only_append (λ x. kd.of x.request) xs (y ∷ []),
        map-append closing_bound (those kd all) (those kd (a ∷ [])),
        map-append (λ x. x.bound) (only (λ x. kd.of x.request) xs) (only (λ x. kd.of x.request) (y ∷ [])),
      )
      (go (kd.of a.request))
    where
      y : Awaited
      y = record { request = a.request; rank = n; bound = B }

      go : (b : Bool) → Met us (map closing_bound (those kd all) ++ map closing_bound (cond b (a ∷ []) []))
          (bounds_of kd.of xs ++ map (λ x. x.bound) (cond b (y ∷ []) []))
      go true = rw e (one-asked us (map closing_bound (those kd all)) B (bounds_of kd.of xs) m)
      go false = rw (append-nil (map closing_bound (those kd all)), append-nil (bounds_of kd.of xs)) m

  pub offer-upheld : (k : Prescribed) (all : List Accepted) (xs : List Awaited) (q : Request) (n : ℕ) → passings ≤ 8
      → n ≤ length k.course.waiting + passings → request_fits t q ≡ true → length k.course.waiting < 16 → Upheld k all xs
      → Upheld (offered_at k q) (all ++ (accepted_at k q ∷ [])) (xs ++ (joins k q n ∷ []))
  offer-upheld k all xs q n few-passings low-rank fits few h =
      let x = k.course in
      let at = h.clock in
      let at_bound : closing_bound (accepted_at k q) ≡ (joins k q n).bound = rw at in
      record {
        past = h.past;
        clock = h.clock;
        limit = h.limit;
        sound = h.sound;
        going = offer_goes t f kd x xs q n (length x.waiting + passings) fits low-rank (omega arith) h.going;
        order = more-order x all (accepted_at k q) h.order;
        met = more-met (firsts_of t kd x) all xs (accepted_at k q) n (joins k q n).bound at_bound h.met;
      }

  pub start-upheld : Upheld (record { words = []; course = laid.start }) [] []
  start-upheld =
      record { past = refl; clock = refl; limit = omega arith; sound = refl; going = start_goes t f kd; order = refl; met = refl }
