-- Each published rule, over the whole history, is the test of what is kept of it.
use Prim.Native.Nat.{ℕ, zero, suc, ◌+◌, ◌-◌, ◌*◌, ◌≤◌, ◌/◌, min}
use mathlib.Core.Path.{◌≡◌, refl, sym, ◌∙◌, ap, ap₂}
use mathlib.Core.Bool.{Bool, true, false, cond, not, ◌&&◌, ◌||◌, not-not}
use mathlib.Core.List.{List, [], ◌∷◌}
use native.Mathlib.Omega.{arith}
use native.Mathlib.Nat.{min-zero}
use borrow.Author.Tests.{le-leb, leb-true, leb-false}
use lib.ListN.{length, get_or}
use lib.Dec.{eqb, leb, ltb}
use Rattle.config.specs.declared.Timing.{Timing}
use Rattle.command.specs.Pairs.{rda, lal, is_refresh}
use Rattle.rules.specs.History.{ClosedPair, Past}
use Rattle.command.specs.Address.{bank_of}
use Rattle.rules.specs.Rules.{
  was_read,
  was_write,
  was_access,
  was_mode,
  was_refresh,
  was_regular,
  was_extended,
  earlier,
  closings,
  oldest,
  too_soon_to_power_down,
  rule3,
  rule6,
  rule7,
  rule8,
  rule9,
  rule10,
  rule11,
  rule12,
}
use Rattle.rules.specs.Breaches.{near, deadline_by, deadline, overdue, bank_stamp, must_stay_high, not_ready, too_close, busy}
use Rattle.rules.proofs.Closings.{Past0, ltb-same, closings_past0, each_past0, nonzero, counted, oldest-counted}
use Rattle.rules.proofs.Newest.{Ordered, latest, since-start, since-closing, idle-start, idle-closing}
use Rattle.rules.proofs.Summary.{summary, of_bank, get_bank, bank-bound}

-- an earlier pair of one of two kinds
earlier-either : (a b g : ClosedPair → Bool) (ps : List ClosedPair)
    → earlier (λ p. (a p || b p) && g p) ps ≡ (earlier (λ p. a p && g p) ps || earlier (λ p. b p && g p) ps)
earlier-either a b g [] = refl
earlier-either a b g (p ∷ ps) = rw (earlier-either a b g ps) (go (a p) (b p) (g p) _ _)
  where
    go : (x y z m n : Bool) → ((x || y) && z || (m || n)) ≡ ((x && z || m) || (y && z || n))
    go true y true m n = refl
    go true true false m n = refl
    go true false false m n = refl
    go false true true true n = refl
    go false true true false n = refl
    go false true false m n = refl
    go false false z m n = refl

pub closing-bound : (f : ClosedPair → Bool) (b : ℕ) (ps : List ClosedPair) → Ordered b ps → (i : ℕ) → get_or (closings f ps) i 0 ≤ b
closing-bound f b [] o i = omega arith
closing-bound f b (p ∷ ps) o i = go (f p) i (closing-bound f p.start ps o.1)
  where
    go : (x : Bool) (i : ℕ) → ((i : ℕ) → get_or (closings f ps) i 0 ≤ p.start)
        → get_or (cond x ((p.start + 1) ∷ closings f ps) (closings f ps)) i 0 ≤ b
    go true zero h = omega arith
    go true (suc i) h =
        let q = h i in
        omega arith
    go false i h =
        let q = h i in
        omega arith

-- the last clock that rule 3 allows, by the REF words of a history
module _ (refi : ℕ) (ks : List ℕ) (past : Past0 ks) where
  -- m × D after the m-th last
  abbrev behind : ℕ → ℕ
  behind zero = 0
  behind (suc i) = get_or ks i 0 + suc i * refi

  -- of the first j places the last counts that the list has
  oldest-counts : (j : ℕ) → deadline_by j refi ks ≡ behind (min (length ks) j)
  oldest-counts zero = rw (min-zero (length ks))
  oldest-counts (suc j) = by (oldest-counts j) (eqb (get_or ks j 0) 0) refl
    where
      by : deadline_by j refi ks ≡ behind (min (length ks) j) → (b : Bool) → eqb (get_or ks j 0) 0 ≡ b
          → cond b (deadline_by j refi ks) (get_or ks j 0 + suc j * refi) ≡ behind (min (length ks) (suc j))
      by newer true e =
          let few = leb-false (suc j) (length ks) (counted ks past j ∙ ap not e) in
          let same : min (length ks) j ≡ min (length ks) (suc j) = omega arith in
          newer ∙ ap behind same
      by newer false e =
          let many = leb-true (suc j) (length ks) (counted ks past j ∙ ap not e) in
          let all : suc j ≡ min (length ks) (suc j) = omega arith in
          ap behind all

  -- the rule for one m is a test of that clock
  allowed : (m k : ℕ) → m ≤ length ks → (leb 1 m && ltb (m * refi) (k - get_or ks (m - 1) 0)) ≡ overdue (behind m) k
  allowed zero k h = refl
  allowed (suc i) k h =
      let there = each_past0 ks past i h in
      let place : suc i - 1 ≡ i = omega arith in
      rw (place, le-leb 1 (suc i) (omega arith), nonzero (get_or ks i 0 + suc i * refi) (omega arith))
      (ltb-same (suc i * refi) (k - get_or ks i 0) (get_or ks i 0 + suc i * refi) k (λ q. omega arith) (λ q. omega arith))

-- rule 3 looks at no open pair
pub overdue-is : (t : Timing) (p : Past) (w : ℕ)
    → rule3 t p w ≡ overdue (deadline t.refi (summary t.four p.pairs).refs) p.clock
overdue-is t p w =
    let refs = closings was_refresh p.pairs in
    let past = closings_past0 was_refresh p.pairs in
    allowed t.refi refs past (min (length refs) 8) p.clock (omega arith)
    ∙ ap (λ last. overdue last p.clock) (sym (oldest-counts t.refi refs past 8))

-- rule 2 looks at no pair that is open: where one is, PD may not go low
pub low-is : (t : Timing) (k : ℕ) (ps : List ClosedPair) → Ordered k ps
    → too_soon_to_power_down t ps k ≡ must_stay_high t (summary t.four ps) k
low-is t k ps o =
    let either = earlier-either was_read was_write (λ p. ltb (k - p.start) t.rc) ps in
    let accesses = either ∙ ap₂ ◌||◌ (idle-start was_read t.rc k ps o) (idle-start was_write t.rc k ps o) in
    let starts = ap₂ ◌||◌ (ap₂ ◌||◌ accesses (idle-start was_mode t.rsc k ps o)) (idle-start was_refresh t.refc k ps o) in
    ap₂ ◌||◌ (ap₂ ◌||◌ starts (idle-closing was_read (t.cl + t.bl / 2) k ps o)) (idle-closing was_write (t.wl + 2) k ps o)

module _ (t : Timing) (k : ℕ) (first second : ℕ) (ps : List ClosedPair) (o : Ordered (k - 1) ps) where
  pub ready-is : let s = summary t.four ps in
      rule6 t ps (k - 1) first second ≡ (lal second && not_ready s.extended s.regular (get_or s.refs 1 0) k)
  ready-is =
      let e = oldest (closings was_extended ps) in
      rw (
        oldest-counted (closings was_extended ps) (closings_past0 was_extended ps),
        counted (closings was_regular ps) (closings_past0 was_regular ps) 0,
        counted (closings was_refresh ps) (closings_past0 was_refresh ps) 1,
        not-not (eqb (latest was_regular ps) 0),
        not-not (eqb (get_or (closings was_refresh ps) 1 0) 0),
        ltb-same (k - 1 - e) 200 k (e + 201) (λ q. omega arith) (λ q. omega arith),
      )

  pub bank-is : rule7 t ps (k - 1) first second ≡ (lal second && near k (bank_stamp t.four (summary t.four ps) first) t.rc)
  bank-is =
      ap (λ b. lal second && b)
      (since-start (of_bank t.four (bank_of t.four first)) t.rc k ps o
      ∙ ap (λ c. near k c t.rc)
      (sym (get_bank (λ b. latest (of_bank t.four b) ps) (bank_of t.four first) (bank-bound t.four first))))

  any_near : (n : ℕ)
      → earlier (λ p. was_access p && ltb (k - 1 - p.start) n) ps ≡ (near k (latest was_read ps) n || near k (latest was_write ps) n)
  any_near n =
      earlier-either was_read was_write (λ p. ltb (k - 1 - p.start) n) ps
      ∙ ap₂ ◌||◌ (since-start was_read n k ps o) (since-start was_write n k ps o)

  pub close_is : let s = summary t.four ps in
      rule8 t ps (k - 1) first second ≡ too_close (rda first) (lal second) t s.read s.write k
  close_is = rw (any_near t.rbd, since-closing was_read t.rwd k ps o, since-closing was_write t.wrd k ps o)

  pub mode-is : rule9 t ps (k - 1) first second ≡ near k (summary t.four ps).mode t.rsc
  mode-is = since-start was_mode t.rsc k ps o

  pub refresh-is : rule10 t ps (k - 1) first second ≡ near k (get_or (summary t.four ps).refs 0 0) t.refc
  refresh-is = since-start was_refresh t.refc k ps o

  pub busy-is : let s = summary t.four ps in
      rule11 t ps (k - 1) first second ≡ busy (rda first) (lal second) t s.read s.write k
  busy-is =
      rw
      (any_near t.rc, since-closing was_read (t.cl + t.bl / 2) k ps o, since-closing was_write (t.wl + t.bl / 2) k ps o)

  pub window-is : 1 ≤ k
      → rule12 t ps (k - 1) first second ≡ (is_refresh first second && near k (get_or (summary t.four ps).refs 7 0) t.window)
  window-is h =
      let refs = closings was_refresh ps in
      let b = closing-bound was_refresh (k - 1) ps o 7 in
      ap (λ b. is_refresh first second && b)
      (ap₂ ◌&&◌ (counted refs (closings_past0 was_refresh ps) 7)
      (ltb-same (k - 1 + 1 - get_or refs 7 0) t.window k (get_or refs 7 0 + t.window) (λ q. omega arith) (λ q. omega arith)))
