-- A word after a past is judged, and remembered, as the checker does it; so the verdict on a trace is that of a run over what is kept.
use Prim.Native.Nat.{ℕ, zero, suc, ◌+◌, ◌-◌, ◌≤◌, ◌<◌}
use mathlib.Core.Path.{◌≡◌, refl, sym, ◌∙◌, ap, ap₂}
use mathlib.Core.Bool.{Bool, true, false, cond, not, ◌&&◌}
use mathlib.Core.List.{List, [], ◌∷◌, ◌++◌}
use native.Mathlib.Omega.{arith}
use native.Mathlib.Numerals.{add-one}
use borrow.Author.Tests.{not-true}
use lib.ListN.{length, get_or, drop, drop_of_length-le}
use lib.Seq.{drop-cons}
use lib.Dec.{eqb}
use Rattle.config.specs.declared.Timing.{Timing}
use Rattle.command.specs.Pins.{high, stray_bit}
use Rattle.command.specs.Pairs.{selected}
use Rattle.rules.specs.History.{
  ClosedPair,
  Rest,
  idle,
  powered_down,
  exiting,
  Phase,
  pair,
  between,
  Past,
  after_desl,
  next_phase,
  next_pairs,
  extend,
  past_from,
}
use Rattle.rules.specs.Rules.{rule2, rule13, lowest, breach_at}
use Rattle.rules.specs.Verdict.{Judgement, accepted, breach, lead, judge_from, judge}
use Rattle.rules.specs.Kept.{met_of}
use Rattle.stamps.specs.Stamps.{remembered, next_stamps, is_powered_down, next_met, never}
use Rattle.rules.specs.Breaches.{deadline, overdue, wrongly_low, selected_at_exit, closing_breach, word_breach}
use Rattle.stamps.specs.declared.Timestamps.{Timestamps}
use Rattle.rules.proofs.Newest.{Ordered}
use Rattle.rules.proofs.Summary.{summary, summary-step}
use Rattle.rules.proofs.Tests.{overdue-is, low-is, ready-is, bank-is, close_is, mode-is, refresh-is, busy-is, window-is}

-- how many words must stand before one that meets this
abbrev pub behind : Rest → ℕ
behind idle = 0
behind powered_down = 1
behind exiting = 2

-- what holds of a past that words have led to: the pairs are in order, an open pair was opened, and such words are there
abbrev pub Regular : Phase → ℕ → List ClosedPair → Type 0
Regular (pair first) k ps = (1 ≤ k) × Ordered (k - 1) ps × (selected first ≡ true)
Regular (between r) k ps = (behind r ≤ k) × Ordered k ps

pub ordered_mono : (b c : ℕ) → b ≤ c → (ps : List ClosedPair) → Ordered b ps → Ordered c ps
ordered_mono b c h [] o = tt
ordered_mono b c h (p ∷ ps) o = (omega arith, o.1)

one_more : (r : Rest) (k : ℕ) → behind r ≤ k → behind (after_desl r) ≤ k + 1
one_more idle k h = omega arith
one_more powered_down k h = omega arith
one_more exiting k h = omega arith

pub regular-extend : (o : Phase) (k : ℕ) (ps : List ClosedPair) (w : ℕ) → Regular o k ps
    → Regular (next_phase o w) (k + 1) (next_pairs o k w ps)
regular-extend (pair first) k ps w r =
    let h = r.0 in
    (omega arith, (omega arith, r.1))
regular-extend (between q) k ps w r = by (high 19 w) (selected w) refl
  where
    on : Ordered (k + 1) ps
    on = ordered_mono k (k + 1) (omega arith) ps r.1

    by : (pd b : Bool) → selected w ≡ b → Regular (cond pd (cond b (pair w) (between (after_desl q))) (between powered_down)) (k + 1) ps
    by true true e = (omega arith, ordered_mono k (k + 1 - 1) (omega arith) ps r.1, e)
    by true false e = (one_more q k r.0, on)
    by false b e = (omega arith, on)

-- the word's breach
early-first : (a b c : Bool) (n : ℕ)
    → cond a 1 (cond b 2 (cond c 3 n)) ≡ cond (eqb (lowest 1 (a ∷ b ∷ c ∷ [])) 0) n (lowest 1 (a ∷ b ∷ c ∷ []))
early-first true b c n = refl
early-first false true c n = refl
early-first false false true n = refl
early-first false false false n = refl

-- rules 2 and 13 where no pair is open
pub none-opened : (r : Rest) → selected (met_of (between r)) ≡ false
none-opened idle = refl
none-opened powered_down = refl
none-opened exiting = refl

module _ (t : Timing) (k : ℕ) (ps : List ClosedPair) (w : ℕ) (o : Ordered k ps) where
  pub low-between : (r : Rest)
      → rule2 t (record { clock = k; phase = between r; pairs = ps }) w ≡ wrongly_low t (summary t.four ps) k (met_of (between r)) w
  low-between idle = rw (low-is t k ps o)
  low-between powered_down = refl
  low-between exiting = refl

  pub exit_between : (r : Rest)
      → rule13 t (record { clock = k; phase = between r; pairs = ps }) w ≡ selected_at_exit (met_of (between r)) w
  exit_between idle = refl
  exit_between powered_down = refl
  exit_between exiting = refl

pub breach-is : (t : Timing) (o : Phase) (k : ℕ) (ps : List ClosedPair) (w : ℕ) → Regular o k ps
    → breach_at t (record { clock = k; phase = o; pairs = ps }) w ≡ word_breach t (summary t.four ps) k (met_of o) w
breach-is t (between q) k ps w r =
    let s = summary t.four ps in
    let first = met_of (between q) in
    let p : Past = record { clock = k; phase = between q; pairs = ps } in
    let due = overdue (deadline t.refi s.refs) k in
    let early = lowest 1 (stray_bit w ∷ wrongly_low t s k first w ∷ due ∷ []) in
    let other = cond {A = ℕ} (selected_at_exit first w) 13 0 in
    rw (low-between t k ps w r.1 q, overdue-is t p w, exit_between t k ps w r.1 q)
    (early-first (stray_bit w) (wrongly_low t s k first w) due other)
    ∙ ap (λ b. cond (eqb early 0) (cond b (closing_breach t s k first w) other) early) (sym (none-opened q))
breach-is t (pair first) k ps w r =
    rw (
      not-true (high 18 first) r.2,
      overdue-is t (record { clock = k; phase = pair first; pairs = ps }) w,
      ready-is t k first w ps r.1,
      bank-is t k first w ps r.1,
      close_is t k first w ps r.1,
      mode-is t k first w ps r.1,
      refresh-is t k first w ps r.1,
      busy-is t k first w ps r.1,
      window-is t k first w ps r.1 r.0,
    )
    (early-first (stray_bit w) (not (high 19 w) && true) (overdue (deadline t.refi (summary t.four ps).refs) k)
    (closing_breach t (summary t.four ps) k first w))

-- what is kept after the word
pub stamps-is : (four : Bool) (o : Phase) (k : ℕ) (ps : List ClosedPair) (w : ℕ) → Regular o k ps
    → summary four (next_pairs o k w ps) ≡ next_stamps four (summary four ps) k (met_of o) w
stamps-is four (between q) k ps w r = rw (none-opened q)
stamps-is four (pair first) k ps w r =
    let h = r.0 in
    let at : k - 1 + 1 ≡ k = omega arith in
    summary-step four (k - 1) first w ps
    ∙ rw r.2 (ap (λ k. remembered four (summary four ps) k first w) at)

after-desl-is : (q : Rest) → met_of (between (after_desl q)) ≡ cond (is_powered_down (met_of (between q))) 0xE0000 0xC0000
after-desl-is idle = refl
after-desl-is powered_down = refl
after-desl-is exiting = refl

pub met-is : (o : Phase) (k : ℕ) (ps : List ClosedPair) (w : ℕ) → Regular o k ps → met_of (next_phase o w) ≡ next_met (met_of o) w
met-is (between q) k ps w r = rw (none-opened q) (by (high 19 w) (selected w))
  where
    next : ℕ
    next = cond (is_powered_down (met_of (between q))) 0xE0000 0xC0000

    by : (pd b : Bool)
        → met_of (cond pd (cond b (pair w) (between (after_desl q))) (between powered_down)) ≡ cond pd (cond b w next) 0x40000
    by true true = refl
    by true false = after-desl-is q
    by false b = refl
met-is (pair first) k ps w r = rw r.2

pub past_append : (p : Past) (ws : List ℕ) (w : ℕ) → past_from p (ws ++ (w ∷ [])) ≡ extend (past_from p ws) w
past_append p [] w = refl
past_append p (v ∷ ws) w = past_append (extend p v) ws w

-- a run over what is kept
abbrev pub run : Timing → Timestamps → ℕ → ℕ → List ℕ → Judgement
run t s k first [] = accepted
run t s k first (w ∷ ws) =
    let rest = run t (next_stamps t.four s k first w) (k + 1) (next_met first w) ws in
    lead (word_breach t s k first w) k rest

run-from : (t : Timing) (o : Phase) (k : ℕ) (ps : List ClosedPair) (ws : List ℕ) → Regular o k ps
    → judge_from t (record { clock = k; phase = o; pairs = ps }) ws ≡ run t (summary t.four ps) k (met_of o) ws
run-from t o k ps [] r = refl
run-from t o k ps (w ∷ ws) r =
    let rest = run-from t (next_phase o w) (k + 1) (next_pairs o k w ps) ws (regular-extend o k ps w r) in
    ap₂ (λ n j. lead n k j) (breach-is t o k ps w r) (rest ∙ rw (stamps-is t.four o k ps w r, met-is o k ps w r))

pub run_is : (t : Timing) (ws : List ℕ) → judge t ws ≡ run t never 0 0xC0000 ws
run_is t ws = run-from t (between idle) 0 [] ws (omega arith, tt)

-- a run at a place of a list: a word that passes leads on, one that does not ends it, and the list's end accepts
module _ (t : Timing) (s : Timestamps) (first : ℕ) (ws : List ℕ) (k : ℕ) where
  module _ {w n : ℕ} (inside : k < length ws) (word : w ≡ get_or ws k 0) (number : n ≡ word_breach t s k first w) where
    at : run t s k first (drop k ws) ≡ lead n k (run t (next_stamps t.four s k first w) (k + 1) (next_met first w) (drop (k + 1) ws))
    at = ap (run t s k first) (drop-cons ws k 0 inside ∙ ap (λ j. get_or ws k 0 ∷ drop j ws) (sym (add-one k))) ∙ rw (number, word)

    pub run-passes : {s₁ : Timestamps} {first₁ : ℕ} → n ≡ 0 → s₁ ≡ next_stamps t.four s k first w → first₁ ≡ next_met first w
        → run t s k first (drop k ws) ≡ run t s₁ (k + 1) first₁ (drop (k + 1) ws)
    run-passes e stamps opened = at ∙ rw (e, stamps, opened)

    pub run_breaches : (n ≡ 0 → ⊥) → run t s k first (drop k ws) ≡ breach k n
    run_breaches e = at ∙ stop n _ e
      where
        stop : (n : ℕ) (rest : Judgement) → (n ≡ 0 → ⊥) → lead n k rest ≡ breach k n
        stop zero rest e = absurd (e refl)
        stop (suc n) rest e = refl

  pub run_ends : length ws ≤ k → run t s k first (drop k ws) ≡ accepted
  run_ends h = rw (drop_of_length-le ws h)
