-- A verdict's clock is below the limit, and its number is one of thirteen.
use Prim.Native.Nat.{ℕ, zero, suc, ◌+◌, ◌≤◌, ◌/◌, ◌%◌}
use mathlib.Core.Path.{◌≡◌, refl}
use mathlib.Core.Bool.{Bool, true, false}
use mathlib.Core.List.{List, [], ◌∷◌, map}
use native.Mathlib.Omega.{arith}
use borrow.Author.Tests.{leb-true}
use lib.ListN.{length}
use lib.Dec.{eqb, leb}
use Rattle.basics.specs.Outcome.{Outcome, value, refused, require, given}
use Rattle.config.specs.Configuration.{timing_of}
use Rattle.config.specs.declared.Config.{Config}
use Rattle.config.specs.declared.Timing.{Timing}
use Rattle.words.specs.Words.{words_of}
use Rattle.words.proofs.Listed.{words-length}
use Rattle.rules.specs.History.{Past, nothing, extend}
use Rattle.rules.specs.Rules.{lowest, rules, breach_at}
use Rattle.rules.specs.Verdict.{Judgement, lead, judge_from, judge, check_bytes_of}
use Rattle.fcram.specs.Range.{Small}

lowest-bound : (n : ℕ) (bs : List Bool) → lowest n bs ≤ n + length bs
lowest-bound n [] = omega arith
lowest-bound n (true ∷ bs) = omega arith
lowest-bound n (false ∷ bs) =
    let h = lowest-bound (suc n) bs in
    omega arith

judge-small : (t : Timing) (p : Past) (ws : List ℕ) → p.clock + length ws ≤ 16777216 → Small (value (judge_from t p ws))
judge-small t p [] h = tt
judge-small t p (w ∷ ws) h =
    go (breach_at t p w) (lowest-bound 1 (map (λ rule. rule t p w) rules)) (judge-small t (extend p w) ws (omega arith))
  where
    go : (n : ℕ) → n ≤ 14 → Small (value (judge_from t (extend p w) ws)) → Small (value (lead n p.clock (judge_from t (extend p w) ws)))
    go zero b rest = rest
    go (suc n) b rest = (omega arith, omega arith)

-- a test that passes hands its fact on
required : (b : Bool) (n : ℕ) (o : Outcome Judgement) → (b ≡ true → Small o) → Small (require b n o)
required true n o f = f refl
required false n o f = tt

pub answer-small : (c : Config) (bytes : List ℕ) → Small (check_bytes_of c bytes)
answer-small c bytes = go (timing_of c)
  where
    after : Timing → Outcome Judgement
    after t = require (eqb (length bytes % 4) 0) 29 (require (leb (length bytes / 4) 16777216) 24 (value (judge t (words_of bytes))))

    go : (o : Outcome Timing) → Small (given o after)
    go (refused n) = tt
    go (value t) =
        required (eqb (length bytes % 4) 0) 29 _
        (λ _. required (leb (length bytes / 4) 16777216) 24 _
        (λ e.
        let h = leb-true (length bytes / 4) 16777216 e in
        let l = words-length bytes in
        judge-small t nothing (words_of bytes) (omega arith)))
