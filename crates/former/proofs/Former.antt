-- Where the former rules were kept at every word so far, nobody slept, and each REF word is at most D after the one before it. So at a word
-- that the former rules 2 and 3 let pass, today's let it pass as well, no wake-up word is due, and the other rules are the same ones.
use Prim.Native.Nat.{ℕ, zero, suc, ◌+◌, ◌-◌, ◌≤◌}
use mathlib.Core.Path.{◌≡◌, refl, ◌∙◌, ap, subst, subst⁻¹}
use mathlib.Core.Bool.{Bool, true, false, cond, not, ◌&&◌}
use mathlib.Core.List.{List, [], ◌∷◌, ◌++◌, map}
use native.Mathlib.Omega.{arith}
use borrow.Author.Tests.{le-leb, ltb-false, not-false}
use lib.ListN.{length, get_or, take, drop}
use lib.Dec.{leb, ltb}
use Rattle.config.specs.declared.Timing.{Timing}
use Rattle.command.specs.Pins.{high}
use Rattle.command.specs.Pairs.{selected}
use Rattle.rules.specs.History.{ClosedPair, idle, powered_down, exiting, Phase, pair, between}
use Rattle.rules.specs.History.{Past, nothing, next_phase, next_pairs, extend}
use Rattle.rules.specs.Rules.{closings, was_refresh, rule1, rule2, rule3, rule13, exit_word, rules, lowest, breach_by, breach_at}
use Rattle.rules.specs.Verdict.{Judgement, accepted, breach, lead, judge_by, judge_from, judge}
use Rattle.rules.proofs.Gaps.{Gaps, gaps-behind, short-gaps}
use Rattle.former.specs.Former.{former_rule2, former_rule3, former_rules, former_judge, StillPasses}

-- another number than 2 and 3
abbrev Other : ℕ → Type 0
Other n = (n ≡ 2 → ⊥) × (n ≡ 3 → ⊥)

both_fail : (a b : Bool) → a ≡ false → (a && b) ≡ false
both_fail a b e = rw e

-- a row of tests that finds nothing has no second and no third one that holds
kept : (a f g : Bool) (rest : List Bool) → lowest 1 (a ∷ f ∷ g ∷ rest) ≡ 0 → (f ≡ false) × (g ≡ false)
kept true f g rest e = absurd (omega arith)
kept false true g rest e = absurd (omega arith)
kept false false true rest e = absurd (omega arith)
kept false false false rest e = (refl, refl)

-- a test behind them that fails is not found
none-behind : (n : ℕ) (bs : List Bool) → lowest n (bs ++ (false ∷ [])) ≡ lowest n bs
none-behind n [] = refl
none-behind n (true ∷ bs) = refl
none-behind n (false ∷ bs) = none-behind (suc n) bs

-- with others in their place, which fail where they do, the row finds the same, unless it found one of them
in_their_place : (a f g : Bool) (rest : List Bool) (x y z : Bool) → (f ≡ false → x ≡ false) → (g ≡ false → y ≡ false) → z ≡ false
    → Other (lowest 1 (a ∷ f ∷ g ∷ rest)) → lowest 1 (a ∷ x ∷ y ∷ (rest ++ (z ∷ []))) ≡ lowest 1 (a ∷ f ∷ g ∷ rest)
in_their_place true f g rest x y z h i j o = refl
in_their_place false true g rest x y z h i j o = absurd (o.0 refl)
in_their_place false false true rest x y z h i j o = absurd (o.1 refl)
in_their_place false false false rest x y z h i j o = rw (h refl, i refl, j) (none-behind 4 rest)

-- nobody sleeps or wakes up, and an open pair was opened
abbrev Awake : Phase → ℕ → Type 0
Awake (pair first) k = 1 ≤ k
Awake (between idle) k = Unit {0}
Awake (between powered_down) k = ⊥
Awake (between exiting) k = ⊥

awake-extend : (o : Phase) (k w : ℕ) → high 19 w ≡ true → Awake o k → Awake (next_phase o w) (k + 1)
awake-extend (pair first) k w h a = tt
awake-extend (between idle) k w h a = rw h (by (selected w))
  where
    by : (b : Bool) → Awake (cond b (pair w) (between idle)) (k + 1)
    by true = omega arith
    by false = tt
awake-extend (between powered_down) k w h a = absurd a
awake-extend (between exiting) k w h a = absurd a

no_exit : (o : Phase) (k : ℕ) (b : Bool) → Awake o k → (exit_word o && b) ≡ false
no_exit (pair first) k b a = refl
no_exit (between idle) k b a = refl
no_exit (between powered_down) k b a = absurd a
no_exit (between exiting) k b a = absurd a

-- the former rule 3 at k: one gap more
one-gap : (D k : ℕ) (ks : List ℕ) → (leb 1 (length ks) && ltb D (k - get_or ks 0 0)) ≡ false → Gaps D ks → Gaps D (k ∷ ks)
one-gap D k [] e g = tt
one-gap D k (j ∷ js) e g =
    let h = ltb-false D (k - j) (rw (le-leb 1 (suc (length js)) (omega arith)) at e) in
    (omega arith, g)

gaps-extend : (D : ℕ) (o : Phase) (k : ℕ) (ps : List ClosedPair) (w : ℕ) → Awake o k
    → Gaps D (k ∷ closings was_refresh ps) → Gaps D (closings was_refresh (next_pairs o k w ps))
gaps-extend D (between q) k ps w a g = gaps-behind D k (closings was_refresh ps) g
gaps-extend D (pair first) k ps w a g = by (was_refresh (record { start = k - 1; first = first; second = w }))
  where
    refs : List ℕ
    refs = closings was_refresh ps

    by : (b : Bool) → Gaps D (cond b ((k - 1 + 1) ∷ refs) refs)
    by true = subst (λ k. Gaps D (k ∷ refs)) (omega arith) g
    by false = gaps-behind D k refs g

-- a verdict has no breach before k
abbrev From : ℕ → Judgement → Type 0
From k accepted = Unit {0}
From k (breach j m) = k ≤ j

-- what has become of a former verdict
abbrev Now : Judgement → Judgement → Type 0
Now accepted now = now ≡ accepted
Now (breach k n) now = (Other n → now ≡ breach k n) × From k now

module _ (t : Timing) where
  -- what the former rules leave behind
  record Sound (p : Past) : Type 0 where
    awake : Awake p.phase p.clock
    gaps : Gaps t.refi (closings was_refresh p.pairs)

  module _ (p : Past) (w : ℕ) (s : Sound p) where
    gap : former_rule3 t p w ≡ false → Gaps t.refi (p.clock ∷ closings was_refresh p.pairs)
    gap f = one-gap t.refi p.clock (closings was_refresh p.pairs) f s.gaps

    abbrev others : List Bool
    others = map (λ rule. rule t p w) (take 9 (drop 3 rules))

    -- the word's number, and what is left behind it where it has none
    number : Other (breach_by former_rules t p w) → breach_at t p w ≡ breach_by former_rules t p w
    number =
        in_their_place (rule1 t p w) (former_rule2 t p w) (former_rule3 t p w) others (rule2 t p w) (rule3 t p w) (rule13 t p w)
        (both_fail (not (high 19 w)) _) (λ e. short-gaps t p w (gap e)) (no_exit p.phase p.clock _ s.awake)

    sound-extend : breach_by former_rules t p w ≡ 0 → Sound (extend p w)
    sound-extend e =
        let h = kept (rule1 t p w) (former_rule2 t p w) (former_rule3 t p w) others e in
        record {
          awake = awake-extend p.phase p.clock w (not-false (high 19 w) h.0) s.awake;
          gaps = gaps-extend t.refi p.phase p.clock p.pairs w s.awake (gap h.1);
        }

  from-clock : (k : ℕ) (p : Past) (ws : List ℕ) → k ≤ p.clock → From k (judge_from t p ws)
  from-clock k p [] h = tt
  from-clock k p (w ∷ ws) h = by (breach_at t p w) (judge_from t (extend p w) ws) (from-clock k (extend p w) ws (omega arith))
    where
      by : (n : ℕ) (rest : Judgement) → From k rest → From k (lead n p.clock rest)
      by zero rest later = later
      by (suc n) rest later = h

  now-from : (p : Past) (ws : List ℕ) → Sound p → Now (judge_by former_rules t p ws) (judge_from t p ws)
  now-from p [] s = refl
  now-from p (w ∷ ws) s = by (λ sound. now-from (extend p w) ws sound) (breach_by former_rules t p w) refl
    where
      rest : Judgement
      rest = judge_from t (extend p w) ws

      former : Judgement
      former = judge_by former_rules t (extend p w) ws

      by : (Sound (extend p w) → Now former rest) → (n : ℕ) → breach_by former_rules t p w ≡ n
          → Now (lead n p.clock former) (lead (breach_at t p w) p.clock rest)
      by on zero e = rw (number p w s (λ q. omega arith, λ q. omega arith) ∙ e) (on (sound-extend p w s e))
      by on (suc n) e =
          let later = from-clock p.clock p (w ∷ ws) (omega arith) in
          (λ o. ap (λ n. lead n p.clock rest) (number p w s (subst⁻¹ Other e o) ∙ e), later)

  now : {former : Judgement} (words : List ℕ) → former_judge t words ≡ former → Now former (judge t words)
  now words e = subst (λ j. Now j (judge t words)) e (now-from nothing words (record { awake = tt; gaps = tt }))

pub still_passes : StillPasses
still_passes =
    record {
      passes = λ t words e. now t words e;
      some-passed = refl;
      stays = λ t words k n e two three. (now t words e).0 (two, three);
      some_stayed = refl;
      no_earlier = λ t words k n j m e f. subst (From k) f (now t words e).1;
      slept = (refl, refl);
      late = (refl, refl);
    }
