-- What is kept of a past is before its clock, so 19 has no ground.
use Prim.Native.Nat.{ℕ, zero, suc, ◌+◌, ◌-◌, ◌≤◌, ◌<◌}
use mathlib.Core.Path.{◌≡◌, refl}
use mathlib.Core.Bool.{Bool, true, false, cond, or-true}
use mathlib.Core.List.{List, [], ◌∷◌}
use native.Mathlib.Omega.{arith}
use native.Mathlib.Nat.{le_refl}
use borrow.Author.Tests.{lt-ltb, le-leb}
use lib.ListN.{get_or}
use Rattle.rules.specs.History.{ClosedPair, Rest, idle, powered_down, exiting, Phase, pair, between}
use Rattle.rules.specs.Rules.{closings, oldest, was_extended, was_regular, was_mode, was_read, was_write, was_refresh}
use Rattle.rules.proofs.Newest.{Ordered, latest}
use Rattle.rules.proofs.Summary.{summary, of_bank, each_bank}
use Rattle.rules.specs.Kept.{met_of}
use Rattle.rules.proofs.Words.{behind, Regular, ordered_mono}
use Rattle.consistency.specs.Consistency.{before, eight_before, stamps_before, words_before, clock_fits}

-- a number is before the clock, or 0
abbrev Before : ℕ → ℕ → Type 0
Before k c = before k c ≡ true

before_lt : (k c : ℕ) → c < k → Before k c
before_lt k c h = rw (lt-ltb c k h, or-true)

-- each closing word of an ordered history is before the clock that bounds it
closing-before : (f : ClosedPair → Bool) (b k : ℕ) → b ≤ k → (ps : List ClosedPair) → Ordered b ps → (i : ℕ)
    → Before k (get_or (closings f ps) i 0)
closing-before f b k h [] o i = refl
closing-before f b k h (p ∷ ps) o i = go (f p) i (closing-before f p.start k (omega arith) ps o.1)
  where
    go : (x : Bool) (i : ℕ) → ((i : ℕ) → Before k (get_or (closings f ps) i 0))
        → Before k (get_or (cond x ((p.start + 1) ∷ closings f ps) (closings f ps)) i 0)
    go true zero older = before_lt k (p.start + 1) (omega arith)
    go true (suc i) older = older i
    go false i older = older i

oldest-before : (k : ℕ) (cs : List ℕ) → ((i : ℕ) → Before k (get_or cs i 0)) → Before k (oldest cs)
oldest-before k [] h = refl
oldest-before k (c ∷ []) h = h 0
oldest-before k (c ∷ d ∷ cs) h = oldest-before k (d ∷ cs) (λ i. h (suc i))

eight : (k : ℕ) (f : ℕ → ℕ) → ((i : ℕ) → Before k (f i)) → eight_before k (each_bank f) ≡ true
eight k f h = rw (h 0, h 1, h 2, h 3, h 4, h 5, h 6, h 7)

summary-before : (four : Bool) (k : ℕ) (ps : List ClosedPair) → Ordered k ps → stamps_before k (summary four ps) ≡ true
summary-before four k ps o =
    let at : (f : ClosedPair → Bool) (i : ℕ) → Before k (get_or (closings f ps) i 0) = λ f. closing-before f k k (le_refl k) ps o in
    rw (
      oldest-before k (closings was_extended ps) (at was_extended),
      at was_regular 0,
      at was_mode 0,
      at was_read 0,
      at was_write 0,
      eight k (λ b. latest (of_bank four b) ps) (λ b. at (of_bank four b) 0),
      eight k (λ i. get_or (closings was_refresh ps) i 0) (at was_refresh),
    )

-- a past that words have led to, within the limit, fits
behind-is : (r : Rest) → words_before (met_of (between r)) ≡ behind r
behind-is idle = refl
behind-is powered_down = refl
behind-is exiting = refl

pub fits : (four : Bool) (o : Phase) (k : ℕ) (ps : List ClosedPair) → Regular o k ps → k ≤ 16777216
    → clock_fits k (met_of o) (summary four ps) ≡ true
fits four (between q) k ps r h = rw (le-leb k 16777216 h, summary-before four k ps r.1, behind-is q, le-leb (behind q) k r.0)
fits four (pair first) k ps r h =
    let e = r.0 in
    rw (le-leb k 16777216 h, summary-before four k ps (ordered_mono (k - 1) k (omega arith) ps r.1), r.2, le-leb 1 k e)
