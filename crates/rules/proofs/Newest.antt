-- Among earlier pairs of a kind the newest one binds: starts fall along the history, and a spacing that the newest keeps is kept by every
-- older one. One lemma over the kind and the spacing.
use Prim.Native.Nat.{ℕ, ◌+◌, ◌-◌, ◌≤◌}
use mathlib.Core.Path.{◌≡◌, refl}
use mathlib.Core.Bool.{Bool, true, false, cond, not, ◌&&◌, ◌||◌, and-false}
use mathlib.Core.List.{List, [], ◌∷◌}
use native.Mathlib.Omega.{arith}
use native.Mathlib.Nat.{le_refl}
use borrow.Author.Tests.{le-ltb, ltb-false}
use lib.ListN.{get_or}
use lib.Dec.{eqb, ltb}
use Rattle.rules.specs.History.{ClosedPair}
use Rattle.rules.specs.Rules.{earlier, closings}
use Rattle.rules.specs.Breaches.{near}
use Rattle.rules.proofs.Closings.{ltb-same, nonzero}

-- each pair is closed before the next one opens, and the newest before b
abbrev pub Ordered : ℕ → List ClosedPair → Type 0
Ordered b [] = Unit {0}
Ordered b (p ∷ ps) = (p.start + 2 ≤ b) × Ordered p.start ps

abbrev pub latest : (ClosedPair → Bool) → List ClosedPair → ℕ
latest f ps = get_or (closings f ps) 0 0

pub latest_cons : (f : ClosedPair → Bool) (p : ClosedPair) (ps : List ClosedPair)
    → latest f (p ∷ ps) ≡ cond (f p) (p.start + 1) (latest f ps)
latest_cons f p ps = go (f p)
  where
    go : (b : Bool) → get_or (cond b ((p.start + 1) ∷ closings f ps) (closings f ps)) 0 0 ≡ cond b (p.start + 1) (latest f ps)
    go true = refl
    go false = refl

-- a test of starts that fails at one fails at all before it
abbrev Falls : (ℕ → Bool) → Type 0
Falls g = (a b : ℕ) → a ≤ b → g b ≡ false → g a ≡ false

none_older : (f : ClosedPair → Bool) (g : ℕ → Bool) → Falls g → (b : ℕ) → g b ≡ false → (ps : List ClosedPair) → Ordered b ps
    → earlier (λ p. f p && g p.start) ps ≡ false
none_older f g falls b e [] o = refl
none_older f g falls b e (p ∷ ps) o =
    let here = falls p.start b (omega arith) e in
    rw (here, and-false) (none_older f g falls p.start here ps o.1)

newest : (f : ClosedPair → Bool) (g h : ℕ → Bool) → Falls g → (u : ℕ) → ((s : ℕ) → s + 2 ≤ u → g s ≡ h (s + 1))
    → (b : ℕ) → b ≤ u → (ps : List ClosedPair) → Ordered b ps
    → earlier (λ p. f p && g p.start) ps ≡ (not (eqb (latest f ps) 0) && h (latest f ps))
newest f g h falls u same b le [] o = refl
newest f g h falls u same b le (p ∷ ps) o =
    rw (latest_cons f p ps) (go (newest f g h falls u same p.start (omega arith) ps o.1) (f p))
  where
    here : (x : Bool) → g p.start ≡ x → (x || earlier (λ p. f p && g p.start) ps) ≡ x
    here true e = refl
    here false e = none_older f g falls p.start e ps o.1

    go : earlier (λ p. f p && g p.start) ps ≡ (not (eqb (latest f ps) 0) && h (latest f ps)) → (x : Bool)
        → (x && g p.start || earlier (λ p. f p && g p.start) ps)
        ≡ (not (eqb (cond x (p.start + 1) (latest f ps)) 0) && h (cond x (p.start + 1) (latest f ps)))
    go older true = rw (nonzero (p.start + 1) (omega arith), ← same p.start (omega arith)) (here (g p.start) refl)
    go older false = older

-- a spacing n of u from a place of each pair, as a test of k and the newest timestamp
since : (f : ClosedPair → Bool) (from : ℕ → ℕ) → ((a b : ℕ) → a ≤ b → from a ≤ from b) → (n m u k : ℕ)
    → ((s : ℕ) → s + 2 ≤ u → ltb (u - from s) n ≡ ltb k (s + 1 + m)) → (ps : List ClosedPair) → Ordered u ps
    → earlier (λ p. f p && ltb (u - from p.start) n) ps ≡ near k (latest f ps) m
since f from mono n m u k same ps o =
    newest f (λ s. ltb (u - from s) n) (λ c. ltb k (c + m))
    (λ a b h e.
    let q = ltb-false (u - from b) n e in
    let r = mono a b h in
    le-ltb (u - from a) n (omega arith))
    u same u (le_refl u) ps o

-- the forms in which the rules have it: a spacing from the pair's start, and one from its closing word, of a pair that closes at k
module _ (f : ClosedPair → Bool) (n k : ℕ) (ps : List ClosedPair) (o : Ordered (k - 1) ps) where
  pub since-start : earlier (λ p. f p && ltb (k - 1 - p.start) n) ps ≡ near k (latest f ps) n
  since-start =
      since f (λ s. s) (λ a b h. h) n n (k - 1) k
      (λ s h. ltb-same (k - 1 - s) n k (s + 1 + n) (λ q. omega arith) (λ q. omega arith)) ps o

  pub since-closing : earlier (λ p. f p && ltb (k - 1 - (p.start + 1)) n) ps ≡ near k (latest f ps) (n + 1)
  since-closing =
      since f (λ s. s + 1) (λ a b h. omega arith) n (n + 1) (k - 1) k
      (λ s h. ltb-same (k - 1 - (s + 1)) n k (s + 1 + (n + 1)) (λ q. omega arith) (λ q. omega arith)) ps o

-- and of a word at k where no pair is open
module _ (f : ClosedPair → Bool) (n k : ℕ) (ps : List ClosedPair) (o : Ordered k ps) where
  pub idle-start : earlier (λ p. f p && ltb (k - p.start) n) ps ≡ near (k + 1) (latest f ps) n
  idle-start =
      since f (λ s. s) (λ a b h. h) n n k (k + 1)
      (λ s h. ltb-same (k - s) n (k + 1) (s + 1 + n) (λ q. omega arith) (λ q. omega arith)) ps o

  pub idle-closing : earlier (λ p. f p && ltb (k - (p.start + 1)) n) ps ≡ near k (latest f ps) n
  idle-closing =
      since f (λ s. s + 1) (λ a b h. omega arith) n n k k
      (λ s h. ltb-same (k - (s + 1)) n k (s + 1 + n) (λ q. omega arith) (λ q. omega arith)) ps o
