-- The state that stands for how far calls have come: the timestamps are the summary of the words given, and the open pair, the candidate
-- and the look-ahead are those that are laid down.
use Prim.Native.Nat.{ℕ, zero, suc, ◌+◌, ◌-◌, ◌≤◌, ◌<◌}
use mathlib.Core.Path.{◌≡◌, refl, sym, ◌∙◌, ap, ap₂}
use mathlib.Core.Bool.{Bool, true, false, cond, not, ◌&&◌, ◌||◌, false≢true}
use mathlib.Core.List.{List, [], ◌∷◌, ◌++◌}
use mathlib.Core.Option.{Option, none, some, none-ne-some}
use native.Mathlib.Omega.{arith}
use borrow.Author.Tests.{le-leb, lt-leb, lt-ltb, leb-true, leb-false, ltb-true, ltb-false}
use lib.ListN.{length, get_or, replicate, get_or-append}
use lib.Seq.{take-append_seam, drop-append_seam}
use lib.Dec.{eqb, leb, ltb}
use Rattle.config.specs.declared.Config.{Config}
use Rattle.config.specs.declared.Timing.{Timing}
use Rattle.command.specs.Pins.{high}
use Rattle.command.specs.Pairs.{selected}
use Rattle.writing.specs.Writing.{pair_of}
use Rattle.command.specs.declared.operation.Request.{Request}
use Rattle.command.specs.declared.operation.Pair.{Pair}
use Rattle.command.specs.declared.operation.Operation.{Operation}
use Rattle.command.specs.declared.operation.Operation.TheVariants.{
  Access,
  Regular as RegularMode,
  Extended as ExtendedMode,
  Refresh as Refreshing,
}
use Rattle.rules.specs.History.{ClosedPair, pair, free, Past, extend}
use Rattle.rules.specs.Rules.{closings, was_extended, was_regular, was_refresh, breach_at}
use Rattle.rules.proofs.Closings.{closings_past0, counted, oldest-counted}
use Rattle.rules.proofs.Newest.{Ordered}
use Rattle.rules.proofs.Summary.{summary}
use Rattle.rules.proofs.Words.{ordered_mono, breach-is}
use Rattle.queue.specs.Place.{closed_up}
use Rattle.model.specs.Laid.{entry_at, Course, leave, first_of_two, refresh_due, asked, candidate, breachless, opening, first_word}
use Rattle.model.specs.Runs.{is_access, access_open}
use Rattle.queue.specs.Queue.{vacant, request_at}
use Rattle.scheduler.specs.Pairs.{pair_words, is_open, of_waiting, place_of, chosen_at, next_pair}
use Rattle.controller.specs.Steps.{passes}
use Rattle.controller.specs.declared.Controller.{Controller}
use Rattle.scheduler.specs.declared.OpenPair.{OpenPair}
use Rattle.scheduler.specs.declared.OpenPair.TheVariants.{Nothing, Extended, Regular, Refresh, Waiting}
use Rattle.model.proofs.Figures.{Figures}
use Rattle.model.proofs.Candidates.{Due, fits_open}
use Rattle.model.proofs.InTime.{last_ref}
use Rattle.model.proofs.Turn.{idle}
use Rattle.model.proofs.Places.{without-length}
use Rattle.model.proofs.Choice.{OpenAt}

-- what an open pair stands for, among these requests
abbrev pub stands_for : OpenPair → List Request → Option Operation
stands_for Nothing rs = none
stands_for Extended rs = some (ExtendedMode 0)
stands_for Regular rs = some (RegularMode false)
stands_for Refresh rs = some Refreshing
stands_for (Waiting i) rs = some (Access (request_at i rs))

-- the two words of what is open, DESL where nothing is
abbrev pub pair_in : Timing → Option Operation → Pair
pair_in t none = record { first = 0xC0000; second = 0xC0000 }
pair_in t (some o) = pair_of t o

-- something is open
abbrev pub is_some : Option Operation → Bool
is_some none = false
is_some (some o) = true

-- a request's pair is of the one at this place
abbrev pub Placed : ℕ → OpenPair → Type 0
Placed q p = of_waiting p ≡ true → place_of p ≡ q

-- an open pair's words are those of what it stands for
pub words_in : (t : Timing) (q : ℕ) (p : OpenPair) (rs : List Request) → Placed q p
    → pair_words t p (request_at q rs) ≡ pair_in t (stands_for p rs)
words_in t q Nothing rs h = refl
words_in t q Extended rs h = refl
words_in t q Regular rs h = refl
words_in t q Refresh rs h = refl
words_in t q (Waiting i) rs h = ap (λ j. pair_of t (Access (request_at j rs))) (sym (h refl))

-- a pair is open where it stands for something
pub open_in : (p : OpenPair) (rs : List Request) → is_open p ≡ is_some (stands_for p rs)
open_in Nothing rs = refl
open_in Extended rs = refl
open_in Regular rs = refl
open_in Refresh rs = refl
open_in (Waiting i) rs = refl

-- it is a request's where it stands for a read or write
pub waiting_in : (p : OpenPair) (rs : List Request) → of_waiting p ≡ access_open (stands_for p rs)
waiting_in Nothing rs = refl
waiting_in Extended rs = refl
waiting_in Regular rs = refl
waiting_in Refresh rs = refl
waiting_in (Waiting i) rs = refl

-- the first word of what opens is the one that is laid down
pub first_in : (t : Timing) (x : Option Operation) → (pair_in t x).first ≡ first_word t x
first_in t none = refl
first_in t (some o) = refl

-- behind those that wait the places are vacant
pub behind : (rs : List Request) (n i : ℕ) → request_at i (rs ++ replicate n vacant) ≡ request_at i rs
behind [] zero i = refl
behind [] (suc n) zero = refl
behind [] (suc n) (suc i) = behind [] n i
behind (r ∷ rs) n zero = refl
behind (r ∷ rs) n (suc i) = behind rs n i

entry-is : (q : ℕ) (rs : List Request) → q < length rs → entry_at q rs ≡ some (request_at q rs)
entry-is q [] h = absurd (omega arith)
entry-is zero (r ∷ rs) h = refl
entry-is (suc q) (r ∷ rs) h = entry-is q rs (omega arith)

no_entry : (q : ℕ) (rs : List Request) → length rs ≤ q → entry_at q rs ≡ none
no_entry q [] h = refl
no_entry zero (r ∷ rs) h = absurd (omega arith)
no_entry (suc q) (r ∷ rs) h = no_entry q rs (omega arith)

-- the chosen pair is that of the chosen request
chosen_is : (q : ℕ) (rs : List Request) → stands_for (chosen_at q (length rs)) rs ≡ asked (entry_at q rs)
chosen_is q rs = by (ltb q (length rs)) refl
  where
    by : (b : Bool) → ltb q (length rs) ≡ b → stands_for (cond b (Waiting q) Nothing) rs ≡ asked (entry_at q rs)
    by true e = sym (ap asked (entry-is q rs (ltb-true q (length rs) e)))
    by false e = sym (ap asked (no_entry q rs (ltb-false q (length rs) e)))

-- where no pair is open, none is placed wrongly
pub none-placed : (q : ℕ) → Placed q Nothing
none-placed q w = absurd (false≢true w)

-- of two pairs that are
pub either-placed : (q : ℕ) (b : Bool) (p r : OpenPair) → Placed q p → Placed q r → Placed q (cond b p r)
either-placed q true p r h g = h
either-placed q false p r h g = g

-- an open read or write is of a waiting request
abbrev pub OfWaiting : OpenPair → List Request → Type 0
OfWaiting p rs = of_waiting p ≡ true → place_of p < length rs

-- the test of 19 finds no open pair of no waiting request
pub of-waiting_test : (p : OpenPair) (rs : List Request) → OfWaiting p rs → (of_waiting p && leb (length rs) (place_of p)) ≡ false
of-waiting_test p rs h = go (of_waiting p) h
  where
    go : (b : Bool) → (b ≡ true → place_of p < length rs) → (b && leb (length rs) (place_of p)) ≡ false
    go true h = lt-leb (length rs) (place_of p) (h refl)
    go false h = refl

-- one more behind leaves the open one
pub same_open : (p : OpenPair) (rs : List Request) (r : Request) → OfWaiting p rs → stands_for p (rs ++ (r ∷ [])) ≡ stands_for p rs
same_open Nothing rs r h = refl
same_open Extended rs r h = refl
same_open Regular rs r h = refl
same_open Refresh rs r h = refl
same_open (Waiting i) rs r h = ap (λ q. some (Access q)) (get_or-append rs (r ∷ []) vacant i (h refl))

one-waits : (q : ℕ) (rs : List Request) (r : Request) → entry_at q rs ≡ some r → q < length rs
one-waits q [] r e = absurd (none-ne-some r e)
one-waits zero (p ∷ rs) r e = omega arith
one-waits (suc q) (p ∷ rs) r e =
    let h = one-waits q rs r e in
    omega arith

-- a read or write that comes next is of a request that waits at the place chosen
pub due-waiting : (t : Timing) (q : ℕ) (rs : List Request) (x : Option Operation) → Due t (entry_at q rs) x → access_open x ≡ true
    → q < length rs
due-waiting t q rs none d e = absurd (false≢true e)
due-waiting t q rs (some (Access r)) d e = one-waits q rs r d.1
due-waiting t q rs (some (RegularMode a3)) d e = absurd (false≢true e)
due-waiting t q rs (some (ExtendedMode v)) d e = absurd (false≢true e)
due-waiting t q rs (some Refreshing) d e = absurd (false≢true e)

-- sixteen places, the last n of them vacant
abbrev places : List Request → ℕ → List Request
places rs n = rs ++ replicate n vacant

-- the queue once the closing word of o is out; i is the place that is laid down, j the one that the state names
pub record Left (o : Operation) (i j : ℕ) (rs : List Request) (spare : ℕ) : Type 0 where
  pub vacancies : ℕ
  pub queue : cond (is_access o) (closed_up vacant j (length rs) (places rs spare)) (places rs spare) ≡ places (leave o i rs) vacancies
  pub count : cond (is_access o) (length rs - 1) (length rs) ≡ length (leave o i rs)
  pub total : length (leave o i rs) + vacancies ≡ 16

-- what is left of the queue is what is laid down
pub left : (o : Operation) (i j : ℕ) (rs : List Request) (spare : ℕ) → OpenAt o i rs → (is_access o ≡ true → j ≡ i) → length rs + spare ≡ 16
    → Left o i j rs spare
left (Access r) i j rs spare at is h =
    let few = one-waits i rs r at in
    let one = without-length i rs r at in
    record {
      vacancies = suc spare;
      queue =
          rw (
            is refl,
            take-append_seam rs (replicate spare vacant),
            drop-append_seam rs (replicate spare vacant),
            lt-ltb i (length rs) few,
          );
      count = omega arith;
      total = omega arith;
    }
left (RegularMode a3) i j rs spare at is h = record { vacancies = spare; queue = refl; count = refl; total = h }
left (ExtendedMode v) i j rs spare at is h = record { vacancies = spare; queue = refl; count = refl; total = h }
left Refreshing i j rs spare at is h = record { vacancies = spare; queue = refl; count = refl; total = h }

-- the state that stands for this, with n vacant places
abbrev pub image : Config → Timing → Course → OpenPair → ℕ → Controller
image c t x opened spare =
    record {
      config = c;
      clock = x.past.clock;
      opened = opened;
      stamps = summary t.four x.past.pairs;
      waiting = x.waiting ++ replicate spare vacant;
      count = length x.waiting;
    }

module _ (t : Timing) (ps : List ClosedPair) (k : ℕ) where
  due-is : refresh_due t (idle k ps) ≡ leb (last_ref ps + t.refi) (k + t.rc)
  due-is = by (leb (last_ref ps + t.refi - t.rc) k) refl
    where
      by : (b : Bool) → leb (last_ref ps + t.refi - t.rc) k ≡ b → b ≡ leb (last_ref ps + t.refi) (k + t.rc)
      by true e =
          let h = leb-true (last_ref ps + t.refi - t.rc) k e in
          sym (le-leb (last_ref ps + t.refi) (k + t.rc) (omega arith))
      by false e =
          let h = leb-false (last_ref ps + t.refi - t.rc) k e in
          sym (lt-leb (last_ref ps + t.refi) (k + t.rc) (omega arith))

  -- what comes next, where the request at place q is chosen
  pub next-is : (q : ℕ) (rs : List Request)
      → stands_for (next_pair t (summary t.four ps) k (chosen_at q (length rs))) rs ≡ candidate t (idle k ps) (entry_at q rs)
  next-is q rs =
      let e = oldest-counted (closings was_extended ps) (closings_past0 was_extended ps) in
      let g = counted (closings was_regular ps) (closings_past0 was_regular ps) 0 in
      let r = counted (closings was_refresh ps) (closings_past0 was_refresh ps) 1 in
      rw (← e, g, r, due-is)
      (go (leb 1 (length (closings was_extended ps))) (eqb (get_or (closings was_regular ps) 0 0) 0)
      (eqb (get_or (closings was_refresh ps) 1 0) 0) (leb (last_ref ps + t.refi) (k + t.rc)) (chosen_at q (length rs)) (asked (entry_at q rs))
      (chosen_is q rs))
    where
      go : (a b c d : Bool) (p : OpenPair) (o : Option Operation) → stands_for p rs ≡ o
          → stands_for (cond (not a) Extended (cond b Regular (cond (c || d) Refresh p))) rs
          ≡ first_of_two (cond a (cond (not b) (cond (not c) none (some Refreshing)) (some (RegularMode false))) (some (ExtendedMode 0)))
          (cond d (some Refreshing) o)
      go false b c d p o h = refl
      go true true c d p o h = refl
      go true false true d p o h = refl
      go true false false true p o h = refl
      go true false false false p o h = h

  -- the pair that comes next, where it is a request's, is of the place chosen
  pub next-placed : (q n : ℕ) → Placed q (next_pair t (summary t.four ps) k (chosen_at q n))
  next-placed q n =
      let none : (p : OpenPair) → of_waiting p ≡ false → Placed q p = λ p e w. absurd (false≢true (sym e ∙ w)) in
      let s = summary t.four ps in
      let due = eqb (get_or s.refs 1 0) 0 || leb (get_or s.refs 0 0 + t.refi) (k + t.rc) in
      let chosen = either-placed q (ltb q n) (Waiting q) Nothing (λ w. refl) (none Nothing refl) in
      let refresh = either-placed q due Refresh (chosen_at q n) (none Refresh refl) chosen in
      let regular = either-placed q (eqb s.regular 0) Regular (cond due Refresh (chosen_at q n)) (none Regular refl) refresh in
      either-placed q (eqb s.extended 0) Extended (cond (eqb s.regular 0) Regular (cond due Refresh (chosen_at q n)))
      (none Extended refl) regular

  -- the look-ahead
  passes-is : (w : Pair) → Ordered k ps → (high 19 w.first ≡ true) × (selected w.first ≡ true)
      → passes t (summary t.four ps) k w ≡ breachless t (idle k ps) w
  passes-is w o h =
      let before = ordered_mono k (k + 1 - 1) (omega arith) ps o in
      let halfway : Past = record { clock = k + 1; phase = pair w.first; pairs = ps } in
      let is : extend (idle k ps) w.first ≡ halfway = rw (h.0, h.1) in
      sym
      (ap₂ (λ m n. eqb m 0 && eqb n 0) (breach-is t free k ps w.first (omega arith, o))
      (ap (λ p. breach_at t p w.second) is ∙ breach-is t (pair w.first) (k + 1) ps w.second (omega arith, before, h.1)))

  -- what opens
  pub opens-is : Figures t → (q : ℕ) (rs : List Request) (y : Option Request) (p : OpenPair) (x : Option Operation) → Ordered k ps
      → Due t y x → Placed q p
      → stands_for p rs ≡ x
      → stands_for (cond (passes t (summary t.four ps) k (pair_words t p (request_at q rs))) p Nothing) rs ≡ opening t (idle k ps) x
  opens-is f q rs y p none o d h e = go (passes t (summary t.four ps) k (pair_words t p (request_at q rs)))
    where
      go : (b : Bool) → stands_for (cond b p Nothing) rs ≡ none
      go true = e
      go false = refl
  opens-is f q rs y p (some z) o d h e =
      rw (words_in t q p rs h, e, passes-is (pair_of t z) o (fits_open t f z d.0)) (go (breachless t (idle k ps) (pair_of t z)))
    where
      go : (b : Bool) → stands_for (cond b p Nothing) rs ≡ cond b (some z) none
      go true = e
      go false = refl
