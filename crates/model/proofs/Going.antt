-- Where a list of calls has come, whatever lawful choice is made: a tick's word keeps every rule, the requests of a kind stay in order, and
-- each waiting one keeps its bound. By cases: between two pairs, where one opens or DESL goes out, and within one, where it closes.
use Prim.Native.Nat.{ℕ, ◌+◌, ◌-◌}
use mathlib.Core.Path.{◌≡◌, refl, sym, ◌∙◌, ap, subst, subst⁻¹}
use mathlib.Core.Bool.{Bool, true, false, cond}
use mathlib.Core.List.{List, [], ◌∷◌, ◌++◌, map, append-nil, append_assoc}
use mathlib.Core.Option.{Option, none, some}
use native.Mathlib.Omega.{arith}
use borrow.Author.Tests.{eqb-true}
use lib.Dec.{eqb}
use Rattle.config.specs.declared.Timing.{Timing}
use Rattle.config.proofs.Bounds.{both}
use Rattle.writing.specs.Writing.{pair_of, operation_fits}
use Rattle.command.specs.declared.operation.Request.{Request}
use Rattle.command.specs.declared.operation.Operation.{Operation}
use Rattle.command.specs.declared.operation.Operation.TheVariants.{Access, Regular, Extended, Refresh}
use Rattle.roundtrip.proofs.WrittenBack.{written_back}
use Rattle.rules.specs.History.{ClosedPair, pair, free, Past, extend}
use Rattle.rules.specs.Rules.{breach_at}
use Rattle.rules.proofs.Newest.{Ordered}
use Rattle.rules.proofs.Summary.{summary}
use Rattle.rules.proofs.Words.{ordered_mono, breach-is}
use Rattle.queue.specs.Place.{without}
use Rattle.model.specs.Laid.{entry_at, Course, candidate, breachless, opening, first_word, leave, giving, Advance, tick_at}
use Rattle.rules.specs.Turns.{request_of, requests_of, starts_of}
use Rattle.model.proofs.Figures.{Figures}
use Rattle.model.proofs.Candidates.{Due, entry-fits, candidate-due, fits_open}
use Rattle.model.proofs.Places.{only, only_append, without-map}
use Rattle.model.proofs.Spacings.{InTime}
use Rattle.model.proofs.InTime.{by-gaps, in_time}
use Rattle.model.proofs.Turn.{pair_at, idle}
use Rattle.model.proofs.StartUp.{modes}
use Rattle.model.proofs.Phases.{Phase, Next, begin, after-extended, after-regular, after-refresh, settled, phase-turn}
use Rattle.model.proofs.Prompt.{Awaited, requests, lower}
use Rattle.model.proofs.Choice.{of_kind, Kind, open_start, firsts_of, Lawful, LawfulAt, unopened, OpenAt, Ahead}
use Rattle.model.proofs.Punctual.{Punctual, Queue}
use Rattle.model.proofs.Opened.{lower-requests, ahead-requests, opened-met}
use Rattle.model.proofs.Bounds.{Kept, phase-kept}
use Rattle.model.proofs.Fulfilled.{Met, bounds_of}
use Rattle.model.proofs.Unopened.{close_later, close_without, fit-without}

-- a pair that opens breaches nothing
abbrev Passing : Timing → Past → Option Operation → Type 0
Passing t p none = Unit {0}
Passing t p (some o) = breachless t p (pair_of t o) ≡ true

-- what opens is what comes next, and breaches nothing
pub opening-due : (t : Timing) (c : Option Request) (p : Past) (x : Option Operation) → Due t c x
    → Due t c (opening t p x) × Passing t p (opening t p x)
opening-due t c p none h = (tt, tt)
opening-due t c p (some o) h = by (breachless t p (pair_of t o)) refl
  where
    by : (b : Bool) → breachless t p (pair_of t o) ≡ b → Due t c (cond b (some o) none) × Passing t p (cond b (some o) none)
    by true e = (h, e)
    by false e = (tt, tt)

-- how far the calls have come between two pairs, and after the first word of one at u
abbrev pub at_rest : ℕ → List ClosedPair → ℕ → List Request → Course
at_rest k ps i rs = record { past = idle k ps; opened = none; place = i; waiting = rs }

abbrev half : Timing → ℕ → Operation → List ClosedPair → Past
half t u o ps = record { clock = u + 1; phase = pair (pair_of t o).first; pairs = ps }

-- how far the calls have come after the first word of a pair at u
abbrev pub in_pair : Timing → ℕ → Operation → List ClosedPair → ℕ → List Request → Course
in_pair t u o ps i rs = record { past = half t u o ps; opened = some o; place = i; waiting = rs }

module _ (t : Timing) (f : Figures t) (g : Kind t) where
  -- between two pairs; xs are the requests that wait
  pub record Between (c : Course) (xs : List Awaited) : Type 0 where
    pub pairs : List ClosedPair
    pub clock : ℕ
    pub place : ℕ
    pub at : c ≡ at_rest clock pairs place (requests xs)
    pub ordered : Ordered clock pairs
    pub phase : Phase t f pairs clock
    pub queue : Queue t pairs clock xs

  -- within a pair whose first word is at `start`: its closing word passes, and where it leads to is known; xs are the requests that have
  -- not opened
  pub record Within (c : Course) (xs : List Awaited) : Type 0 where
    pub pairs : List ClosedPair
    pub start : ℕ
    pub operation : Operation
    pub place : ℕ
    pub waiting : List Request
    pub at : c ≡ in_pair t start operation pairs place waiting
    pub chosen : OpenAt operation place waiting
    pub ahead : Ahead g.of operation place waiting
    pub leaves : leave operation place waiting ≡ requests xs
    pub ordered : Ordered start pairs
    pub fits : operation_fits t operation ≡ true
    pub passes : breach_at t (half t start operation pairs) (pair_of t operation).second ≡ 0
    pub phase : Phase t f (pair_at t start operation ∷ pairs) (start + 2)
    pub queue : Queue t (pair_at t start operation ∷ pairs) (start + 2) xs

  -- one of the two: between two pairs, or within one
  pub data Going (c : Course) (xs : List Awaited) : Type 0 where
    between : Between c xs → Going c xs
    within : Within c xs → Going c xs

  -- the requests of the kind that were put out, and behind them those that wait
  abbrev pub in_all : Course → List Request
  in_all c = only g.of (requests_of t c.past.pairs) ++ only g.of c.waiting

  -- what a tick comes to
  pub record Goes (c : Course) (xs : List Awaited) (i : ℕ) (a : Advance) : Type 0 where
    pub passes : breach_at t c.past a.word ≡ 0
    pub left : List Awaited
    pub going : Going a.after left
    pub opens : left ≡ unopened a.after.opened i xs
    pub order : in_all a.after ≡ in_all c
    pub met : (all : List ℕ) → Met (firsts_of t g c) all (bounds_of g.of xs) → Met (firsts_of t g a.after) all (bounds_of g.of left)

  phase_in_time : (ps : List ClosedPair) (k : ℕ) → Phase t f ps k → InTime t (summary t.four ps) k
  phase_in_time ps k (begin e z) = rw e
  phase_in_time ps k (after-extended e low high) = rw e
  phase_in_time ps k (after-regular g early late e low high) = rw e
  phase_in_time ps k (after-refresh g e early late after by is low high) =
      let long = f.refi in
      let short = f.refc.1 in
      let shorter = f.rsc.1 in
      rw is (by-gaps t (pair_at t e Refresh ∷ modes t f g early late) k (omega arith, tt))
  phase_in_time ps k (settled done n) = in_time t f ps k n k (omega arith)

  desl-passes : (ps : List ClosedPair) (k : ℕ) → Ordered k ps → InTime t (summary t.four ps) k → breach_at t (idle k ps) 0xC0000 ≡ 0
  desl-passes ps k o h = rw (breach-is t free k ps 0xC0000 (omega arith, o), h)

  -- between pairs at k, where the requests xs wait and the one at i is chosen
  module _ (ps : List ClosedPair) (k : ℕ) (ord : Ordered k ps) (ph : Phase t f ps k) (xs : List Awaited) (q : Queue t ps k xs) (i : ℕ) where
    -- no pair opens
    idles : (j : ℕ) → Next t f ps k none → Kept t ps k xs i none
        → Goes (at_rest k ps j (requests xs)) xs i (giving 0xC0000 (at_rest k ps j (requests xs)) none i (requests xs))
    idles j n kept =
        record {
          passes = desl-passes ps k ord (phase_in_time ps k ph);
          left = xs;
          going =
              between
              (record {
                pairs = ps;
                clock = k + 1;
                place = i;
                at = refl;
                ordered = ordered_mono k (k + 1) (omega arith) ps ord;
                phase = n;
                queue = record { fit = q.fit; near = close_later k (k + 1) xs (omega arith) q.near; punctual = kept };
              });
          opens = refl;
          order = refl;
          met = λ all m. m;
        }

    -- what becomes of the requests that have not opened
    record Opened (o : Operation) : Type 0 where
      left : List Awaited
      opens : left ≡ unopened (some o) i xs
      leaves : leave o i (requests xs) ≡ requests left
      ahead : Ahead g.of o i (requests xs)
      queue : Queue t (pair_at t k o ∷ ps) (k + 2) left
      met : (us all : List ℕ) → Met us all (bounds_of g.of xs)
          → Met (us ++ open_start g.of (some o) (k + 1)) all (bounds_of g.of left)

    -- none of them opens
    none-opened : (o : Operation) → of_kind g.of o ≡ false → leave o i (requests xs) ≡ requests xs → Ahead g.of o i (requests xs)
        → xs ≡ unopened (some o) i xs → Punctual t (pair_at t k o ∷ ps) (k + 2) xs → Opened o
    none-opened o e stay ahead all p =
        record {
          left = xs;
          opens = all;
          leaves = stay;
          ahead = ahead;
          queue = record { fit = q.fit; near = close_later k (k + 2) xs (omega arith) q.near; punctual = p };
          met = λ us all m. rw e (subst⁻¹ (λ us. Met us all (bounds_of g.of xs)) (append-nil us) m);
        }

    opened : (o : Operation) → Lawful t g (idle k ps) xs i → Kept t ps k xs i (some o) → Opened o
    opened (Access r) law served =
        let x = served.entry in
        let first = law.ahead x served.chosen in
        let in_time = served.in_time in
        let left = map lower (without i xs) in
        record {
          left = left;
          opens = refl;
          leaves = without-map (λ x. x.request) i xs ∙ sym (lower-requests (without i xs));
          ahead = subst (λ r. Ahead g.of (Access r) i (requests xs)) served.is (ahead-requests g.of i xs x first);
          queue =
              record {
                fit = fit-without t i xs q.fit;
                near = close_later k (k + 2) left (omega arith) (close_without k i xs q.near);
                punctual = served.others;
              };
          met = λ us all m. opened-met g.of i xs x r served.is first us all (k + 1 - 1) (omega arith) m;
        }
    opened (Regular a3) law kept = none-opened (Regular a3) refl refl refl refl kept
    opened (Extended v) law kept = none-opened (Extended v) refl refl refl refl kept
    opened Refresh law kept = none-opened Refresh refl refl refl refl kept

    opens-pair : (o : Operation) (j : ℕ) → operation_fits t o ≡ true → OpenAt o i (requests xs)
        → breachless t (idle k ps) (pair_of t o) ≡ true
        → Next t f ps k (some o) → Opened o
        → Goes (at_rest k ps j (requests xs)) xs i (giving (pair_of t o).first (at_rest k ps j (requests xs)) (some o) i (requests xs))
    opens-pair o j fits chosen pass n h =
        let w = pair_of t o in
        let p = extend (idle k ps) w.first in
        let b = both (eqb (breach_at t (idle k ps) w.first) 0) (eqb (breach_at t p w.second) 0) pass in
        let closing : breach_at t p w.second ≡ 0 = eqb-true (breach_at t p w.second) 0 b.1 in
        let selected = fits_open t f o fits in
        let is : p ≡ half t k o ps = rw (selected.0, selected.1) in
        record {
          passes = eqb-true (breach_at t (idle k ps) w.first) 0 b.0;
          left = h.left;
          going =
              within
              (record {
                pairs = ps;
                start = k;
                operation = o;
                place = i;
                waiting = requests xs;
                at = rw (selected.0, selected.1);
                chosen = chosen;
                ahead = h.ahead;
                leaves = h.leaves;
                ordered = ord;
                fits = fits;
                passes = subst (λ p. breach_at t p w.second ≡ 0) is closing;
                phase = n;
                queue = h.queue;
              });
          opens = h.opens;
          order = refl;
          met =
              λ all m. h.met (starts_of g.was ps) all
              (subst (λ us. Met us all (bounds_of g.of xs)) (append-nil (starts_of g.was ps)) m);
        }

    starts_or_idles : (j : ℕ) → Lawful t g (idle k ps) xs i → (x : Option Operation)
        → Due t (entry_at i (requests xs)) x × Passing t (idle k ps) x → Next t f ps k x → Kept t ps k xs i x
        → Goes (at_rest k ps j (requests xs)) xs i (giving (first_word t x) (at_rest k ps j (requests xs)) x i (requests xs))
    starts_or_idles j law none d n kept = idles j n kept
    starts_or_idles j law (some o) d n kept = opens-pair o j d.0.0 d.0.1 d.1 n (opened o law kept)

    starts : (j : ℕ) → Lawful t g (idle k ps) xs i → Goes (at_rest k ps j (requests xs)) xs i (tick_at i t (at_rest k ps j (requests xs)))
    starts j law =
        let y = entry_at i (requests xs) in
        let next = candidate t (idle k ps) y in
        let fits = entry-fits t i (requests xs) q.fit in
        starts_or_idles j law (opening t (idle k ps) next) (opening-due t y (idle k ps) next (candidate-due t (idle k ps) y fits))
        (phase-turn t f ps k y fits ph) (phase-kept t f ps k xs i law.fair law.willing ph q)

  -- the closing word, whatever is chosen
  closes : (c : Course) (xs : List Awaited) (j : ℕ) (w : Within c xs) → let x =
      in_pair t w.start w.operation w.pairs w.place w.waiting in
      Goes x xs j (tick_at j t x)
  closes c xs j w =
      let u = w.start in
      let o = w.operation in
      let ps = w.pairs in
      let stay = only g.of (leave o w.place w.waiting) in
      let from : u + 1 - 1 ≡ u = omega arith in
      let next : u + 1 + 1 ≡ u + 2 = omega arith in
      let reads = (written_back t f.bl f.cl o w.fits).1 in
      let kind = g.same (u + 1 - 1) o w.fits in
      record {
        passes = w.passes;
        left = xs;
        going =
            between
            (record {
              pairs = pair_at t u o ∷ ps;
              clock = u + 2;
              place = w.place;
              at = rw (from, next, w.leaves);
              ordered = (omega arith, w.ordered);
              phase = w.phase;
              queue = w.queue;
            });
        opens = refl;
        order =
            ap (λ y. only g.of (requests_of t ps ++ request_of y) ++ stay) reads
            ∙ ap (λ ys. ys ++ stay) (only_append g.of (requests_of t ps) (request_of o))
            ∙ append_assoc (only g.of (requests_of t ps)) (only g.of (request_of o)) stay
            ∙ ap (λ zs. only g.of (requests_of t ps) ++ zs) w.ahead;
        met = λ all m. rw (kind, append-nil (starts_of g.was ps ++ cond (of_kind g.of o) ((u + 1 - 1) ∷ []) [])) m;
      }

  -- a tick, whichever lawful choice is made
  pub tick_goes : (c : Course) (xs : List Awaited) (i : ℕ) → LawfulAt t g c xs i → Going c xs → Goes c xs i (tick_at i t c)
  tick_goes c xs i law (between b) =
      subst⁻¹ (λ c. LawfulAt t g c xs i → Goes c xs i (tick_at i t c)) b.at
      (λ law. starts b.pairs b.clock b.ordered b.phase xs b.queue i b.place (law refl)) law
  tick_goes c xs i law (within w) = subst⁻¹ (λ c. Goes c xs i (tick_at i t c)) w.at (closes c xs i w)
