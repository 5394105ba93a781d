-- Lists of closing clocks: none is 0, so a place that holds 0 is past the end.
use Prim.Native.Nat.{ℕ, zero, suc, ◌+◌, ◌≤◌, ◌<◌}
use mathlib.Core.Path.{◌≡◌, refl, sym, ◌∙◌, ap}
use mathlib.Core.Bool.{Bool, true, false, cond, not}
use mathlib.Core.List.{List, [], ◌∷◌}
use native.Mathlib.Omega.{arith}
use borrow.Author.Tests.{ne_eqb, le-leb, lt-leb, lt-ltb, le-ltb, ltb-true, ltb-false}
use lib.ListN.{length, get_or}
use lib.Dec.{eqb, leb, ltb, leb-suc-suc}
use Rattle.rules.specs.History.{ClosedPair}
use Rattle.rules.specs.Rules.{closings, oldest}

-- two orders that hold together have the same test
pub ltb-same : (a b c d : ℕ) → (a < b → c < d) → (c < d → a < b) → ltb a b ≡ ltb c d
ltb-same a b c d f g = go (ltb a b) refl
  where
    go : (x : Bool) → ltb a b ≡ x → ltb a b ≡ ltb c d
    go true e = e ∙ sym (lt-ltb c d (f (ltb-true a b e)))
    go false e = e ∙ sym (le-ltb c d (not_lt (ltb-false a b e)))
      where
        not_lt : b ≤ a → d ≤ c
        not_lt h = back (ltb c d) refl
          where
            back : (y : Bool) → ltb c d ≡ y → d ≤ c
            back false q = ltb-false c d q
            back true q =
                let k = g (ltb-true c d q) in
                omega arith

-- every clock is past 0
abbrev pub Past0 : List ℕ → Type 0
Past0 [] = Unit {0}
Past0 (k ∷ ks) = (1 ≤ k) × Past0 ks

pub closings_past0 : (f : ClosedPair → Bool) (ps : List ClosedPair) → Past0 (closings f ps)
closings_past0 f [] = tt
closings_past0 f (p ∷ ps) = go (f p) (closings_past0 f ps)
  where
    go : (b : Bool) → Past0 (closings f ps) → Past0 (cond b ((p.start + 1) ∷ closings f ps) (closings f ps))
    go true h = (omega arith, h)
    go false h = h

pub each_past0 : (ks : List ℕ) → Past0 ks → (i : ℕ) → suc i ≤ length ks → 1 ≤ get_or ks i 0
each_past0 [] h i l = absurd (omega arith)
each_past0 (k ∷ ks) h zero l = h.0
each_past0 (k ∷ ks) h (suc i) l = each_past0 ks h.1 i (omega arith)

pub nonzero : (k : ℕ) → 1 ≤ k → eqb k 0 ≡ false
nonzero k h = ne_eqb k 0 (λ e. omega arith)

-- a list has more than i clocks exactly where its place i is not 0
pub counted : (ks : List ℕ) → Past0 ks → (i : ℕ) → leb (suc i) (length ks) ≡ not (eqb (get_or ks i 0) 0)
counted [] h i = lt-leb (suc i) 0 (omega arith)
counted (k ∷ ks) h zero = le-leb 1 (suc (length ks)) (omega arith) ∙ sym (ap not (nonzero k h.0))
counted (k ∷ ks) h (suc i) = leb-suc-suc (suc i) (length ks) ∙ counted ks h.1 i

oldest_past0 : (k : ℕ) (ks : List ℕ) → Past0 (k ∷ ks) → 1 ≤ oldest (k ∷ ks)
oldest_past0 k [] h = h.0
oldest_past0 k (j ∷ ks) h = oldest_past0 j ks h.1

-- the first clock of a list that one more was put in front of
pub oldest_cons : (k : ℕ) (ks : List ℕ) → Past0 ks → oldest (k ∷ ks) ≡ cond (eqb (oldest ks) 0) k (oldest ks)
oldest_cons k [] h = refl
oldest_cons k (j ∷ ks) h = sym (rw (nonzero (oldest (j ∷ ks)) (oldest_past0 j ks h)))

pub oldest-counted : (ks : List ℕ) → Past0 ks → not (leb 1 (length ks)) ≡ eqb (oldest ks) 0
oldest-counted [] h = refl
oldest-counted (k ∷ ks) h = ap not (le-leb 1 (suc (length ks)) (omega arith)) ∙ sym (nonzero (oldest (k ∷ ks)) (oldest_past0 k ks h))
