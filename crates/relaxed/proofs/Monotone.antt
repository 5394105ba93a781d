-- The theorem of specs/Dependence. No number is found at a word exactly where every rule is kept there; and each rule is, by the timing
-- that its row has.
use Prim.Native.Nat.{ℕ, zero, suc}
use mathlib.Core.Path.{◌≡◌, refl, ◌∙◌, ap}
use mathlib.Core.Bool.{Bool, true, false}
use mathlib.Core.List.{List, [], ◌∷◌, map}
use native.Mathlib.Omega.{arith}
use Rattle.config.specs.declared.Timing.{Timing}
use Rattle.rules.specs.History.{Past, nothing, extend}
use Rattle.rules.specs.Rules.{Rule, rules, lowest, breach_at}
use Rattle.rules.specs.Verdict.{Judgement, accepted, lead, judge_from}
use Rattle.relaxed.specs.Dependence.{Dependence, dependences, Every, NoStricter, Suffices, Witness, Monotone}
use Rattle.relaxed.proofs.Kept.{kept}

every_map : {A : Type 0} {P Q : A → Type 0} (xs : List A) → ((x : A) → P x → Q x) → Every P xs → Every Q xs
every_map [] f h = tt
every_map (x ∷ xs) f h = (f x h.0, every_map xs f h.1)

-- a row of tests that finds nothing
first-fails : (n : ℕ) (b : Bool) (bs : List Bool) → lowest (suc n) (b ∷ bs) ≡ 0 → (b ≡ false) × (lowest (suc (suc n)) bs ≡ 0)
first-fails n true bs e = absurd (omega arith)
first-fails n false bs e = (refl, e)

module _ (t : Timing) (p : Past) (w : ℕ) where
  abbrev found : List Rule → List Bool
  found table = map (λ rule. rule t p w) table

  all-kept : (n : ℕ) (table : List Rule) → lowest (suc n) (found table) ≡ 0 → Every (λ rule. rule t p w ≡ false) table
  all-kept n [] e = tt
  all-kept n (rule ∷ table) e =
      let h = first-fails n (rule t p w) (found table) e in
      (h.0, all-kept (suc n) table h.1)

  none_found : (n : ℕ) (table : List Rule) → Every (λ rule. rule t p w ≡ false) table → lowest n (found table) ≡ 0
  none_found n [] h = refl
  none_found n (rule ∷ table) h = rw h.0 (none_found (suc n) table h.1)

-- a word that leads on, and what comes behind it
led : (n k : ℕ) (rest : Judgement) → lead n k rest ≡ accepted → (n ≡ 0) × (rest ≡ accepted)
led zero k rest e = (refl, e)
led (suc n) k rest e = absurd (let z : ◌≡◌ {A = ℕ} 0 1 = cc in omega arith)

module _ (t : Timing) where
  -- as a witness, for the words behind a past
  record From (p : Past) (ws : List ℕ) (d : Dependence) : Type 0 where
    timing : Timing
    no_stricter : NoStricter d timing t
    passes : judge_from timing p ws ≡ accepted

  module _ (p : Past) (w : ℕ) (ws : List ℕ) where
    abbrev rest : Timing → Judgement
    rest s = judge_from s (extend p w) ws

    after-word : (d : Dependence) → From p (w ∷ ws) d → From (extend p w) ws d
    after-word d x =
        let s = x.timing in
        record { timing = s; no_stricter = x.no_stricter; passes = (led (breach_at s p w) p.clock (rest s) x.passes).1 }

    -- each rule of some rows is kept, since all are by the timing of its row
    each_kept : (ds : List Dependence) → Every Suffices ds
        → ((s : Timing) → breach_at s p w ≡ 0 → Every (λ d. d.rule s p w ≡ false) ds)
        → Every (From p (w ∷ ws)) ds → Every (λ d. d.rule t p w ≡ false) ds
    each_kept [] k h x = tt
    each_kept (d ∷ ds) k h x =
        let s = x.0.timing in
        let e = (led (breach_at s p w) p.clock (rest s) x.0.passes).0 in
        (k.0 s t p w x.0.no_stricter (h s e).0, each_kept ds k.1 (λ s e. (h s e).1) x.1)

  passes-from : (p : Past) (ws : List ℕ) → Every (From p ws) dependences → judge_from t p ws ≡ accepted
  passes-from p [] x = refl
  passes-from p (w ∷ ws) x =
      let all = each_kept p w ws dependences kept (λ s e. all-kept s p w 0 rules e) x in
      ap (λ n. lead n p.clock (rest p w ws t)) (none_found t p w 1 rules all)
      ∙ passes-from (extend p w) ws (every_map dependences (after-word p w ws) x)

  from_nothing : (words : List ℕ) (d : Dependence) → Witness t words d → From nothing words d
  from_nothing words d x = record { timing = x.timing; no_stricter = x.no_stricter; passes = x.passes }

pub monotone : Monotone
monotone =
    record {
      whole = refl;
      kept = kept;
      passes = λ t words x. passes-from t nothing words (every_map dependences (from_nothing t words) x);
    }
