-- The controller that opens the oldest request: a request's rank is its place, so its choice is lawful; and so every list of calls keeps
-- what Runs says, with the controller in a state that stands for how far it has come.
use Prim.Native.Nat.{ℕ, suc, ◌+◌, ◌≤◌, ◌<◌}
use mathlib.Core.Path.{◌≡◌, refl, ◌∙◌, ap, subst⁻¹}
use mathlib.Core.Bool.{Bool, true, false, cond, not, ◌&&◌, ◌||◌}
use mathlib.Core.List.{List, [], ◌∷◌, ◌++◌, map, append-nil}
use mathlib.Core.Option.{Option, none, some}
use native.Mathlib.Omega.{arith}
use borrow.Author.Tests.{ltb-true, ltb-false}
use lib.ListN.{length}
use lib.Dec.{ltb}
use Rattle.basics.specs.Outcome.{value, refused}
use Rattle.config.specs.Configuration.{timing_of}
use Rattle.config.specs.declared.Config.{Config}
use Rattle.config.specs.declared.Timing.{Timing}
use Rattle.command.specs.Pairs.{rda, lal}
use Rattle.writing.specs.Writing.{request_fits}
use Rattle.controller.specs.Steps.{Tick, held, joined, offer_of, not_ticked, tick_choosing, tick_of}
use Rattle.controller.specs.declared.Controller.{Controller}
use Rattle.command.specs.declared.operation.Request.{Request}
use Rattle.command.specs.declared.operation.Operation.{Operation}
use Rattle.command.specs.declared.operation.Operation.TheVariants.{Access, Regular, Extended, Refresh}
use Rattle.rules.specs.History.{ClosedPair}
use Rattle.rules.specs.Rules.{was_access}
use Rattle.model.specs.Laid.{Course}
use Rattle.model.specs.Laid as laid
use Rattle.model.specs.Runs.{
  is_access,
  Call,
  offer,
  tick,
  Accepted,
  Run,
  if_accepted,
  called,
  run_from,
  Prescribed,
  followed,
  prescribed_from,
}
use Rattle.model.proofs.Figures.{Figures}
use Rattle.model.proofs.Turn.{pair_at, closes_with_lal}
use Rattle.model.proofs.Places.{first_foremost}
use Rattle.model.proofs.Prompt.{Awaited, lower, Positive, Spare}
use Rattle.model.proofs.Choice.{of_kind, Kind, LawfulAt, unopened}
use Rattle.model.proofs.Offered.{none_more}
use Rattle.model.proofs.Represents.{
  Represents,
  held-is,
  offer-represents,
  Ticks,
  refusing,
  offer-is,
  tick-represents,
  tick-ends,
}
use Rattle.model.proofs.Runs.{ticked_at, offered_at, accepted_at, Upheld, tick-upheld, joins, offer-upheld}

-- a read or write pair closes with LAL, and no other
pub access-by-lal : (p : ClosedPair) → was_access p ≡ lal p.second
access-by-lal p = go (rda p.first) (lal p.second)
  where
    go : (a l : Bool) → (a && l || not a && l) ≡ l
    go true true = refl
    go true false = refl
    go false l = refl

-- of the kind that has all requests is what is a read or write
pub access_kind : (o : Operation) → is_access o ≡ of_kind (λ r. true) o
access_kind (Access r) = refl
access_kind (Regular a3) = refl
access_kind (Extended v) = refl
access_kind Refresh = refl

-- of one kind are all
abbrev pub all : (t : Timing) → Figures t → Kind t
all t f =
    record {
      of = λ r. true;
      was = was_access;
      same = λ u o fits. access-by-lal (pair_at t u o) ∙ closes_with_lal t f o fits ∙ access_kind o;
    }

-- a refused call adds nothing
nothing_added : {A : Type 0} (n : ℕ) (a : A) (all : List A) → all ++ if_accepted (refused n) a ≡ all
nothing_added n a all = append-nil all

-- each rank is the place, the first being n
abbrev pub ByPlace : ℕ → List Awaited → Type 0
ByPlace n [] = Unit {0}
ByPlace n (x ∷ xs) = (x.rank ≡ n) × ByPlace (suc n) xs

by-place-positive : (n : ℕ) (xs : List Awaited) → ByPlace (suc n) xs → Positive xs
by-place-positive n [] h = tt
by-place-positive n (x ∷ xs) h =
    let e = h.0 in
    (omega arith, by-place-positive (suc n) xs h.1)

by-place-lower : (n : ℕ) (xs : List Awaited) → ByPlace (suc n) xs → ByPlace n (map lower xs)
by-place-lower n [] h = tt
by-place-lower n (x ∷ xs) h =
    let e = h.0 in
    (omega arith, by-place-lower (suc n) xs h.1)

by-place-left : (o : Option Operation) (xs : List Awaited) → ByPlace 0 xs → ByPlace 0 (unopened o 0 xs)
by-place-left none xs h = h
by-place-left (some (Access r)) [] h = tt
by-place-left (some (Access r)) (x ∷ xs) h = by-place-lower 0 xs h.1
by-place-left (some (Regular a3)) xs h = h
by-place-left (some (Extended v)) xs h = h
by-place-left (some Refresh) xs h = h

by-place-more : (n : ℕ) (xs : List Awaited) (x : Awaited) → x.rank ≡ n + length xs → ByPlace n xs → ByPlace n (xs ++ (x ∷ []))
by-place-more n [] x e h = (omega arith, tt)
by-place-more n (y ∷ xs) x e h = (h.0, by-place-more (suc n) xs x (omega arith) h.1)

others-spare : (xs : List Awaited) → ByPlace 0 xs → Spare 0 xs
others-spare [] h = tt
others-spare (x ∷ xs) h = by-place-positive 0 xs h.1

module _ (c : Config) (t : Timing) (is : timing_of c ≡ value t) (f : Figures t) where
  -- the oldest is willing where it is chosen, every other has another before it, and it is the first of all
  lawful : (x : Course) (xs : List Awaited) → ByPlace 0 xs → LawfulAt t (all t f) x xs 0
  lawful x xs h e = record { willing = λ may. may; fair = λ x e. others-spare xs h; ahead = first_foremost (λ x. true) xs }

  -- what every list of calls keeps
  pub record Kept (r : Run) (k : Prescribed) : Type 0 where
    pub words : r.words ≡ k.words
    pub represents : Represents c t r.controller k.course
    pub awaited : List Awaited
    pub ranks : ByPlace 0 awaited
    pub upheld : Upheld t f (all t f) 0 k r.accepted awaited

  -- what the next call is to the controller of such a list
  module _ (r : Run) (k : Prescribed) (h : Kept r k) where
    abbrev s : Controller
    s = r.controller

    abbrev x : Course
    x = k.course

    pub is_held : held s ≡ x.waiting
    is_held = held-is c t s x h.represents

    pub offer_comes : (q : Request) → offer_of s q ≡ refusing t s x.waiting q
    offer_comes q =
        let at = h.upheld.clock in
        let low = h.upheld.limit in
        offer-is c t is f (all t f) s x h.awaited q h.represents h.upheld.going (omega arith)

    -- a tick chooses the oldest
    oldest : tick_of s ≡ tick_choosing t s 0
    oldest = subst⁻¹ (λ s. tick_of s ≡ tick_choosing t s 0) h.represents.state (rw is)

    pub ticks : length k.words < 16777216 → Ticks c t s 0 (laid.tick t x)
    ticks low =
        let at = h.upheld.clock in
        tick-represents c t is f (all t f) 0 s x h.awaited h.represents h.upheld.going (omega arith)

    pub tick_gives : (low : length k.words < 16777216)
        → tick_of s ≡ record { outcome = value tt; word = (laid.tick t x).word; after = (ticks low).after }
    tick_gives low = oldest ∙ (ticks low).tick

    pub tick-over : 16777216 ≤ length k.words → tick_of s ≡ not_ticked s 24
    tick-over over =
        let at = h.upheld.clock in
        let low = h.upheld.limit in
        oldest ∙ tick-ends c t is f (all t f) 0 s x h.awaited h.represents h.upheld.going (omega arith)

    -- a tick
    tick-kept : Kept (called r tick) (followed t k tick)
    tick-kept = by (ltb (length k.words) 16777216) refl
      where
        -- what an answer makes of the list
        from : Tick → Run
        from y = record { words = r.words ++ if_accepted y.outcome y.word; accepted = r.accepted; controller = y.after }

        given : length k.words < 16777216 → Kept (from (tick_of s)) (ticked_at 0 t k)
        given low =
            let u = tick-upheld t f (all t f) 0 k r.accepted h.awaited 0 h.upheld (lawful x h.awaited h.ranks) low in
            subst⁻¹ (λ y. Kept (from y) (ticked_at 0 t k)) (tick_gives low)
            (record {
              words = ap (λ ws. ws ++ ((laid.tick t x).word ∷ [])) h.words;
              represents = (ticks low).represents;
              awaited = u.left;
              ranks = subst⁻¹ (ByPlace 0) u.opens (by-place-left (laid.tick t x).after.opened h.awaited h.ranks);
              upheld = u.upheld;
            })

        by : (b : Bool) → ltb (length k.words) 16777216 ≡ b → Kept (called r tick) (cond b (ticked_at 0 t k) k)
        by true e = given (ltb-true (length k.words) 16777216 e)
        by false e = rw (tick-over (ltb-false (length k.words) 16777216 e), nothing_added 24 0 r.words) h

    -- an offer
    offer-kept : (q : Request) → Kept (called r (offer q)) (followed t k (offer q))
    offer-kept q = by (request_fits t q) (ltb (length x.waiting) 16) refl refl
      where
        a : Accepted
        a = record { request = q; ticks = length r.words; ahead = length (held s) }

        same : a ≡ accepted_at k q
        same = rw (h.words, is_held)

        n : ℕ
        n = length h.awaited

        taken : request_fits t q ≡ true → length x.waiting < 16
            → Kept (record { words = r.words; accepted = r.accepted ++ (a ∷ []); controller = joined s q }) (offered_at k q)
        taken fits few =
            let fewer = none_more t f (all t f) x h.awaited h.upheld.going in
            let y = joins t f (all t f) 0 k q n in
            let u = offer-upheld t f (all t f) 0 k r.accepted h.awaited q n (omega arith) (omega arith) fits few h.upheld in
            record {
              words = h.words;
              represents = offer-represents c t s x q h.represents few;
              awaited = h.awaited ++ (y ∷ []);
              ranks = by-place-more 0 h.awaited y (omega arith) h.ranks;
              upheld = subst⁻¹ (λ a. Upheld t f (all t f) 0 (offered_at k q) (r.accepted ++ (a ∷ [])) (h.awaited ++ (y ∷ []))) same u;
            }

        by : (b d : Bool) → request_fits t q ≡ b → ltb (length x.waiting) 16 ≡ d
            → Kept (called r (offer q)) (cond (b && d) (offered_at k q) k)
        by true true e g = rw (offer_comes q, e, g) (taken e (ltb-true (length x.waiting) 16 g))
        by true false e g = rw (offer_comes q, e, g, nothing_added 27 a r.accepted) h
        by false d e g = rw (offer_comes q, e, nothing_added 26 a r.accepted) h

  -- every list of calls keeps it
  pub all-kept : (r : Run) (k : Prescribed) (calls : List Call) → Kept r k → Kept (run_from r calls) (prescribed_from t k calls)
  all-kept r k [] h = h
  all-kept r k (tick ∷ calls) h = all-kept (called r tick) (followed t k tick) calls (tick-kept r k h)
  all-kept r k (offer q ∷ calls) h = all-kept (called r (offer q)) (followed t k (offer q)) calls (offer-kept r k h q)
