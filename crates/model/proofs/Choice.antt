-- What a choice of the next request is to keep, so that all the rest is proved without knowing how it is made. A choice is a place among
-- the requests that wait. The order and the bounds are followed for one kind of requests at a time: all of them, or those of a bank.
use Prim.Native.Nat.{ℕ, zero, suc, ◌-◌, ◌≤◌}
use mathlib.Core.Path.{◌≡◌, refl, subst⁻¹}
use mathlib.Core.Bool.{Bool, true, false, cond}
use mathlib.Core.List.{List, [], ◌∷◌, ◌++◌, map}
use mathlib.Core.Option.{Option, none, some, some-injective}
use native.Mathlib.Omega.{arith}
use native.Mathlib.Nat.{le_refl}
use lib.ListN.{length}
use Rattle.config.specs.declared.Timing.{Timing}
use Rattle.writing.specs.Writing.{pair_of, request_fits, operation_fits}
use Rattle.command.specs.declared.operation.Request.{Request}
use Rattle.command.specs.declared.operation.Operation.{Operation}
use Rattle.command.specs.declared.operation.Operation.TheVariants.{Access, Regular, Extended, Refresh}
use Rattle.rules.specs.History.{ClosedPair, Past}
use Rattle.queue.specs.Place.{without}
use Rattle.queue.specs.Queue.{all_fit}
use Rattle.model.specs.Laid.{entry_at, Course, breachless, leave}
use Rattle.rules.specs.Turns.{request_of, starts_of}
use Rattle.model.proofs.Candidates.{AllFit, OfChosen}
use Rattle.model.proofs.Places.{only, Foremost, entry_more, without_more, without-length}
use Rattle.model.proofs.Prompt.{Awaited, requests, lower, Spare}
use Rattle.model.proofs.Turn.{pair_at}

-- an operation is a request of a kind
abbrev pub of_kind : (Request → Bool) → Operation → Bool
of_kind g (Access r) = g r
of_kind g (Regular a3) = false
of_kind g (Extended v) = false
of_kind g Refresh = false

-- a kind of requests, and the closed pairs that are of it by their pins
pub record Kind (t : Timing) : Type 0 where
  pub of : Request → Bool
  pub was : ClosedPair → Bool
  pub same : (u : ℕ) (o : Operation) → operation_fits t o ≡ true → was (pair_at t u o) ≡ of_kind of o

-- the first word of a pair of the kind that is open at clock k
abbrev pub open_start : (Request → Bool) → Option Operation → ℕ → List ℕ
open_start g none k = []
open_start g (some o) k = cond (of_kind g o) ((k - 1) ∷ []) []

-- the first words of the pairs of the kind, an open one behind the closed ones
abbrev pub firsts_of : (t : Timing) → Kind t → Course → List ℕ
firsts_of t g c = starts_of g.was c.past.pairs ++ open_start g.of c.opened c.past.clock

-- the pair of a request breaches nothing, if there is one
abbrev pub may_open : Timing → Past → Option Request → Bool
may_open t p none = false
may_open t p (some r) = breachless t p (pair_of t (Access r))

-- where the oldest may open, the chosen one may
abbrev pub Willing : Timing → Past → List Request → ℕ → Type 0
Willing t p rs i = may_open t p (entry_at 0 rs) ≡ true → may_open t p (entry_at i rs) ≡ true

-- where one is chosen, every other has rank to lose
abbrev pub Fair : List Awaited → ℕ → Type 0
Fair xs i = (x : Awaited) → entry_at i xs ≡ some x → Spare i xs

-- the laws of a choice, behind the words p with no pair open: what is asked of the place i among the requests xs
pub record Lawful (t : Timing) (g : Kind t) (p : Past) (xs : List Awaited) (i : ℕ) : Type 0 where
  pub willing : Willing t p (requests xs) i
  pub fair : Fair xs i
  -- of its kind the chosen one is ahead of the others
  pub ahead : (x : Awaited) → entry_at i xs ≡ some x → Foremost (λ x. g.of x.request) i xs x

-- a tick's choice is lawful; with a pair open nothing is chosen, and nothing is asked
abbrev pub LawfulAt : (t : Timing) → Kind t → Course → List Awaited → ℕ → Type 0
LawfulAt t g c xs i = c.opened ≡ none → Lawful t g c.past xs i

-- the requests that have not opened, once a tick that chose the one at i has opened this: behind a request's first word the others have
-- one rank less
abbrev pub unopened : Option Operation → ℕ → List Awaited → List Awaited
unopened none i xs = xs
unopened (some (Access r)) i xs = map lower (without i xs)
unopened (some (Regular a3)) i xs = xs
unopened (some (Extended v)) i xs = xs
unopened (some Refresh) i xs = xs

-- the open pair, where it is a request's, is that of the entry at a place
abbrev pub OpenAt : Operation → ℕ → List Request → Type 0
OpenAt o i rs = OfChosen (entry_at i rs) o

-- of the kind it is ahead of those that stay when it leaves
abbrev pub Ahead : (Request → Bool) → Operation → ℕ → List Request → Type 0
Ahead g o i rs = only g (request_of o) ++ only g (leave o i rs) ≡ only g rs

-- more requests behind change neither what is open nor who leaves
pub open_more : (o : Operation) (i : ℕ) (rs ss : List Request) → OpenAt o i rs → OpenAt o i (rs ++ ss)
open_more (Access r) i rs ss e = entry_more i rs ss r e
open_more (Regular a3) i rs ss e = tt
open_more (Extended v) i rs ss e = tt
open_more Refresh i rs ss e = tt

-- requests behind stay behind those that stay when one leaves
pub leave-more : (o : Operation) (i : ℕ) (rs ss : List Request) → OpenAt o i rs → leave o i (rs ++ ss) ≡ leave o i rs ++ ss
leave-more (Access r) i rs ss e = without_more i rs ss r e
leave-more (Regular a3) i rs ss e = refl
leave-more (Extended v) i rs ss e = refl
leave-more Refresh i rs ss e = refl

-- as many wait when a pair has closed, or one less
pub leave-length : (o : Operation) (i : ℕ) (rs : List Request) → OpenAt o i rs → length (leave o i rs) ≤ length rs
leave-length (Access r) i rs e =
    let l = without-length i rs r e in
    omega arith
leave-length (Regular a3) i rs e = le_refl (length rs)
leave-length (Extended v) i rs e = le_refl (length rs)
leave-length Refresh i rs e = le_refl (length rs)

-- requests in range pass the test of 19
pub all-fit : (t : Timing) (rs : List Request) → AllFit t rs → all_fit t rs ≡ true
all-fit t [] a = refl
all-fit t (r ∷ rs) a = rw (a.0, all-fit t rs a.1)

-- all fit, if the one whose pair is open does and the others do
pub fit-back : (t : Timing) (o : Operation) (i : ℕ) (rs : List Request) → OpenAt o i rs → operation_fits t o ≡ true → AllFit t (leave o i rs)
    → AllFit t rs
fit-back t (Access r) i rs at h a = go i rs at a
  where
    go : (i : ℕ) (rs : List Request) → entry_at i rs ≡ some r → AllFit t (without i rs) → AllFit t rs
    go i [] e a = tt
    go zero (q ∷ rs) e a = (subst⁻¹ (λ q. request_fits t q ≡ true) (some-injective q r e) h, a)
    go (suc i) (q ∷ rs) e a = (a.0, go i rs e a.1)
fit-back t (Regular a3) i rs at h a = a
fit-back t (Extended v) i rs at h a = a
fit-back t Refresh i rs at h a = a
