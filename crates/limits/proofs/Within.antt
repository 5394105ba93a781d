-- The theorem of specs/Within. To no rule but the twelfth is a sheet in the limits stricter than the greatest. That one asks for W, which
-- is larger for a shorter period, and so it is no stricter than the least. So what both accept is accepted between them; and a breach that
-- is shown is the verdict on one of the two, which are in the limits. No sheet is refused by 35 or 24, so behind these both are accepted.
use Prim.Native.Nat.{ℕ, ◌/◌, ◌≤◌, ◌<◌}
use mathlib.Core.Path.{◌≡◌, refl, sym, ◌∙◌, ap, subst}
use mathlib.Core.Bool.{Bool, true, false, ◌&&◌, false≢true}
use mathlib.Core.List.{List}
use native.Mathlib.Omega.{arith}
use native.Mathlib.Nat.{mul-le-mul_left}
use borrow.Author.Tests.{leb-true, leb-false, le-leb, lt-leb}
use lib.Ieee.Nearest.{div_mono}
use lib.ListN.{length}
use lib.Dec.{leb}
use Rattle.basics.specs.Outcome.{value, refused, require}
use Rattle.basics.proofs.Outcomes.{require-value, Not, value_not, require-not, require-behind, require-fails}
use Rattle.config.specs.Configuration.{derived, timing_of}
use Rattle.config.specs.declared.Config.{Config}
use Rattle.config.proofs.Accepted as config
use Rattle.config.proofs.Bounds.{period_bounds}
use Rattle.rules.specs.Verdict.{Judgement, accepted, breach, judge}
use Rattle.relaxed.proofs.Rows.{passes}
use Rattle.limits.specs.Limits.{alike, nowhere_above, Finding, always, breach_on, shown, within_of}
use Rattle.limits.specs.Within.{Ordered, InLimits, NoneInBreach, Taken, Within}
use Rattle.limits.proofs.Ordered.{ordered, fits}
use Rattle.limits.proofs.InLimits.{least, greatest, in_limits-accepted}

-- a quotient by a larger number is no larger
shorter : (n : ℕ) {p q : ℕ} → 0 < p → p ≤ q → n / q ≤ n / p
shorter n {p} {q} z h = div_mono n q n p (omega arith) z (mul-le-mul_left n h)

fails : (b : Bool) → (b ≡ true → ⊥) → b ≡ false
fails true h = absurd (h refl)
fails false h = refl

no_breach : {k n : ℕ} → accepted ≡ breach k n → ⊥
no_breach e = let z : ◌≡◌ {A = ℕ} 0 1 = cc in omega arith

-- D and W by the period, which is not 0
both : (a b c : Config) (words : List ℕ) → timing_of a ≡ value (derived a) → InLimits a b c → judge (derived a) words ≡ accepted
    → judge (derived b) words ≡ accepted → judge (derived c) words ≡ accepted
both a b c words e i h k =
    let p = (config.accepted a _ e).0 in
    let z = period_bounds a p.part p.period in
    let x = i.from.period in
    let w = shorter 3200000 (omega arith) x in
    let g = i.to in
    passes b c g.cl g.bl g.organisation g.wiring g.rbd g.rwd g.wrd g.rsc g.refc
    (shorter 3900000 (omega arith) g.period)
    (derived a)
    (omega arith)
    words k h

module _ (a b : Config) (words : List ℕ) where
  -- what is found on both
  abbrev found : Finding
  found = shown a (judge (derived a) words) (shown b (judge (derived b) words) always)

  answer : Taken a b words → within_of a b words ≡ value found
  answer t = rw (t.least, t.greatest, fits a b t.ordered, le-leb (length words) 16777216 t.short)

  -- the two refusals
  module _ (p : timing_of a ≡ value (derived a)) (q : timing_of b ≡ value (derived b)) where
    unfit : ((alike a b && nowhere_above a b) ≡ true → ⊥) → within_of a b words ≡ refused 35
    unfit h = rw (p, q, fails (alike a b && nowhere_above a b) h)

    too_long : (alike a b && nowhere_above a b) ≡ true → 16777216 < length words → within_of a b words ≡ refused 24
    too_long h l = rw (p, q, h, lt-leb (length words) 16777216 l)

  -- behind either lie two accepted sheets, since no sheet is refused by it
  behind-both : {n : ℕ} → ((c : Config) → Not n (timing_of c)) → within_of a b words ≡ refused n
      → (timing_of a ≡ value (derived a)) × (timing_of b ≡ value (derived b))
      × (require (alike a b && nowhere_above a b) 35 (require (leb (length words) 16777216) 24 (value found)) ≡ refused n)
  behind-both h e =
      let g = config.behind-refusal a _ (h a) e in
      let k = config.behind-refusal b _ (h b) g.1 in
      (g.0, k.0, k.1)

  only_no_limits : within_of a b words ≡ refused 35
      → (timing_of a ≡ value (derived a)) × (timing_of b ≡ value (derived b)) × (Ordered a b → ⊥)
  only_no_limits e =
      let k = behind-both (λ c. config.config_above c 35 (omega arith)) e in
      let later : Not 35 _ = require-not (leb (length words) 16777216) 24 35 _ (λ q. omega arith) (value_not 35 found) in
      (k.0, k.1, λ o. false≢true (sym (require-fails (alike a b && nowhere_above a b) _ later k.2) ∙ fits a b o))

  only-long : within_of a b words ≡ refused 24
      → (timing_of a ≡ value (derived a)) × (timing_of b ≡ value (derived b)) × Ordered a b × (16777216 < length words)
  only-long e =
      let k = behind-both (λ c. config.config-between c 24 (omega arith) (omega arith)) e in
      let l = require-behind (alike a b && nowhere_above a b) _ (λ q. omega arith) k.2 in
      let more = require-fails (leb (length words) 16777216) _ (value_not 24 _) l.1 in
      (k.0, k.1, ordered a b l.0, leb-false (length words) 16777216 more)

  -- yes says that both verdicts are accepted; what is shown is in the limits, and its breach is the verdict on it
  abbrev Sound : Finding → Type 0
  Sound always = (judge (derived a) words ≡ accepted) × (judge (derived b) words ≡ accepted)
  Sound (breach_on c k n) = InLimits a b c × (judge (derived c) words ≡ breach k n)

  sound : Ordered a b → (i j : Judgement) → judge (derived a) words ≡ i → judge (derived b) words ≡ j → Sound (shown a i (shown b j always))
  sound o accepted accepted e f = (e, f)
  sound o accepted (breach k n) e f = (greatest a b o, f)
  sound o (breach k n) j e f = (least a b o, e)

  behind : (f : Finding) → within_of a b words ≡ value f → Taken a b words × Sound f
  behind f e =
      let g = config.behind a _ e in
      let h = config.behind b _ g.1 in
      let k = require-value (alike a b && nowhere_above a b) _ _ h.1 in
      let l = require-value (leb (length words) 16777216) _ _ k.1 in
      let o = ordered a b k.0 in
      let is : found ≡ f = cc l.1 in (
        record { least = config.timing-is a g.0; greatest = config.timing-is b h.0; ordered = o; short = leb-true _ _ l.0 },
        subst Sound is (sound o _ _ refl refl),
      )

  yes : within_of a b words ≡ value always → NoneInBreach a b words
  yes e c k n i h =
      let t = behind always e in
      no_breach (sym (both a b c words t.0.least i t.1.0 t.1.1) ∙ h)

  none-shown : (f : Finding) → Sound f → NoneInBreach a b words → f ≡ always
  none-shown always s h = refl
  none-shown (breach_on c k n) s h = absurd (h c k n s.0 s.1)

pub within : Within
within =
    record {
      some = record { least = refl; greatest = refl; ordered = ordered _ _ refl; short = omega arith };
      in_between = in_limits-accepted;
      check = λ a b c words t i. rw (in_limits-accepted a b c t.least t.greatest i, le-leb (length words) 16777216 t.short);
      both = both;
      answers = λ a b words t. (_, answer a b words t);
      answered = λ a b words f e. (behind a b words f e).0;
      yes = yes;
      only_yes = λ a b words t h. answer a b words t ∙ ap value (none-shown a b words _ (sound a b words t.ordered _ _ refl refl) h);
      in_limits = λ a b c words k n e. (behind a b words (breach_on c k n) e).1.0;
      verdict = λ a b c words k n e. (behind a b words (breach_on c k n) e).1.1;
      no_limits = λ a b words p q h. unfit a b words p q (λ e. h (ordered a b e));
      only_no_limits = only_no_limits;
      long = λ a b words p q o l. too_long a b words p q (fits a b o) l;
      only-long = only-long;
    }
