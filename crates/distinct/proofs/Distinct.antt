-- The tests in a row refuse by seven numbers alone, from 20 to 34. A breach has a number from 1 to 13, and at clock 0 one of 1 and 2: no
-- pair is open there, no REF word lies behind and nobody sleeps. So the outcome can be read off the number, and the number is one of those.
use Prim.Native.Nat.{ℕ, zero, suc, ◌+◌, ◌*◌, ◌/◌, ◌%◌, ◌≤◌, ◌<◌}
use mathlib.Core.Path.{◌≡◌, refl, sym, ◌∙◌, ap}
use mathlib.Core.Bool.{Bool, true, false, cond, ◌||◌}
use mathlib.Core.List.{List, [], ◌∷◌, map}
use native.Mathlib.Omega.{arith}
use borrow.Author.Tests.{ne_eqb, le-leb, lt-leb, lt-ltb}
use lib.ListN.{length}
use lib.Dec.{eqb, leb}
use Rattle.basics.specs.Outcome.{Outcome, value, refused, require, given}
use Rattle.basics.proofs.Outcomes.{value_not, require-not, given-not}
use Rattle.config.specs.Configuration.{part_fits, wiring_fits, period_fits, counts_fit, refresh_fits, timing_of, config_of}
use Rattle.config.specs.declared.Config.{Config}
use Rattle.config.specs.declared.Timing.{Timing}
use Rattle.command.specs.Pins.{stray_bit}
use Rattle.words.specs.Words.{words_of}
use Rattle.rules.specs.History.{Past, nothing, extend}
use Rattle.rules.specs.Rules.{rule2, rules, lowest, breach_at}
use Rattle.rules.specs.Verdict.{Judgement, accepted, breach, lead, judge_from, judge, check_bytes_of}
use Rattle.fcram.specs.Number.{number_of}
use Rattle.fcram.specs.Range.{Small}
use Rattle.fcram.proofs.Bounded.{answer-small}
use Rattle.distinct.specs.Distinct.{answer, meaning, is_refusal, is_breach, is_answer, Distinct}

-- a value has a property, or a refusal is one of the seven
abbrev Each : {A : Type 0} → (A → Type 0) → Outcome A → Type 0
Each P (value a) = P a
Each P (refused n) = (20 ≤ n) × (n ≤ 34) × (is_refusal n ≡ true)

each_require : {A : Type 0} (P : A → Type 0) (b : Bool) (n : ℕ) (x : Outcome A) → Each P (refused n) → Each P x → Each P (require b n x)
each_require P true n x r e = e
each_require P false n x r e = r

each_given : {A B : Type 0} (P : A → Type 0) (Q : B → Type 0) (x : Outcome A) (f : A → Outcome B) → Each P x → ((a : A) → Each Q (f a))
    → Each Q (given x f)
each_given P Q (value a) f e k = k a
each_given P Q (refused n) f e k = e

-- a breach is by one of thirteen numbers, and at clock 0 by 1 or 2
abbrev Fits : Judgement → Type 0
Fits accepted = Unit {0}
Fits (breach k n) = (1 ≤ n) × (n ≤ 13) × (k ≡ 0 → n ≤ 2)

lowest-below : (n : ℕ) (bs : List Bool) → 1 ≤ n → lowest n bs < n + length bs
lowest-below n [] h = omega arith
lowest-below n (true ∷ bs) h = omega arith
lowest-below n (false ∷ bs) h = omega (arith, lowest-below (suc n) bs (omega arith))

later-fits : (t : Timing) (p : Past) (ws : List ℕ) → 1 ≤ p.clock → Fits (judge_from t p ws)
later-fits t p [] h = tt
later-fits t p (w ∷ ws) h =
    by (breach_at t p w) (lowest-below 1 (map (λ rule. rule t p w) rules) (omega arith)) _ (later-fits t (extend p w) ws (omega arith))
  where
    by : (n : ℕ) → n < 14 → (rest : Judgement) → Fits rest → Fits (lead n p.clock rest)
    by zero b rest f = f
    by (suc n) b rest f = (omega arith, omega arith, λ z. absurd (omega arith))

judge-fits : (t : Timing) (ws : List ℕ) → Fits (judge t ws)
judge-fits t [] = tt
judge-fits t (w ∷ ws) = by (stray_bit w) (rule2 t nothing w) _ (later-fits t (extend nothing w) ws (omega arith))
  where
    by : (a b : Bool) (rest : Judgement) → Fits rest → Fits (lead (cond a 1 (cond b 2 0)) 0 rest)
    by true b rest f = (omega arith, omega arith, λ z. omega arith)
    by false true rest f = (omega arith, omega arith, λ z. omega arith)
    by false false rest f = f

answer-fits : (c : Config) (bytes : List ℕ) → Each Fits (check_bytes_of c bytes)
answer-fits c bytes =
    each_given Any Fits (timing_of c) _
    (each_require Any (part_fits c) 20 _ (omega arith, omega arith, refl)
    (each_require Any (wiring_fits c) 34 _ (omega arith, omega arith, refl)
    (each_require Any (period_fits c) 21 _ (omega arith, omega arith, refl)
    (each_require Any (counts_fit c) 22 _ (omega arith, omega arith, refl)
    (each_require Any (refresh_fits c) 33 _ (omega arith, omega arith, refl) tt)))))
    (λ t. each_require Fits (eqb (length bytes % 4) 0) 29 _ (omega arith, omega arith, refl)
    (each_require Fits (leb (length bytes / 4) 16777216) 24 _ (omega arith, omega arith, refl) (judge-fits t (words_of bytes))))
  where
    Any : Timing → Type 0
    Any t = Unit {0}

-- one of three tests in a row holds
second : (a b c : Bool) → b ≡ true → (a || b || c) ≡ true
second true b c e = refl
second false b c e = rw e

third : (a b c : Bool) → c ≡ true → (a || b || c) ≡ true
third true b c e = refl
third false true c e = refl
third false false c e = e

read_back : (o : Outcome Judgement) → Each Fits o → Small o → (o ≡ meaning (number_of o)) × (is_answer (number_of o) ≡ true)
read_back (value accepted) f s = (refl, refl)
read_back (value (breach zero zero)) f s = absurd (omega arith)
read_back (value (breach zero (suc zero))) f s = (refl, refl)
read_back (value (breach zero (suc (suc zero)))) f s = (refl, refl)
read_back (value (breach zero (suc (suc (suc n))))) f s = absurd (omega (arith, f.2 refl))
read_back (value (breach (suc k) n)) f s =
    let m = suc k * 64 + n in
    let clock : m / 64 ≡ suc k = omega arith in
    let number : m % 64 ≡ n = omega arith in
    let above : is_breach m ≡ true =
    rw (lt-ltb 64 m (omega arith), clock, number, le-leb 1 n f.0, le-leb n 13 f.1, lt-ltb (suc k) 16777216 s.0) in
    let back : value (breach (suc k) n) ≡ meaning m =
    rw (ne_eqb m 0 (λ e. omega arith), lt-leb m 2 (omega arith), lt-leb m 64 (omega arith), clock, number) in
    (back, third (leb m 2) (is_refusal m) (is_breach m) above)
read_back (refused n) f s =
    let back : refused n ≡ meaning n = rw (ne_eqb n 0 (λ e. omega arith), lt-leb n 2 (omega arith), le-leb n 64 (omega arith)) in
    (back, second (leb n 2) (is_refusal n) (is_breach n) f.2)

module _ (c : Config) (bytes : List ℕ) where
  stands_for : check_bytes_of c bytes ≡ meaning (answer c bytes)
  stands_for = (read_back (check_bytes_of c bytes) (answer-fits c bytes) (answer-small c bytes)).0

  no_other : is_answer (answer c bytes) ≡ true
  no_other = (read_back (check_bytes_of c bytes) (answer-fits c bytes) (answer-small c bytes)).1

never-34 : (grade cl bl organisation period rbd rwd wrd rsc refc : ℕ) (bytes : List ℕ)
    → answer (config_of grade cl bl organisation period rbd rwd wrd rsc refc) bytes ≡ 34 → ⊥
never-34 grade cl bl organisation period rbd rwd wrd rsc refc bytes e =
    given-not 34 (timing_of c) _
    (require-not (part_fits c) 20 34 _ (λ q. omega arith)
    (require-not (period_fits c) 21 34 _ (λ q. omega arith)
    (require-not (counts_fit c) 22 34 _ (λ q. omega arith)
    (require-not (refresh_fits c) 33 34 _ (λ q. omega arith) (value_not 34 _)))))
    (λ t. require-not (eqb (length bytes % 4) 0) 29 34 _ (λ q. omega arith)
    (require-not (leb (length bytes / 4) 16777216) 24 34 _ (λ q. omega arith) (value_not 34 _)))
    (stands_for c bytes ∙ ap meaning e)
  where
    c : Config
    c = config_of grade cl bl organisation period rbd rwd wrd rsc refc

pub distinct : Distinct
distinct =
    record {
      same = λ a b x y e. stands_for a x ∙ ap meaning e ∙ sym (stands_for b y);
      stands_for = stands_for;
      no_other = no_other;
      some = refl;
      some-24 = λ bytes e. rw e;
      never-34 = never-34;
    }
