-- That each of eight events is before the clock, said by place.
use Rattle.std.proofs.Common.{◌≡◌, refl, ◌∙◌, ap, ℕ, zero, suc, Bool, true, List, [], ◌∷◌, length, get_or, arith}
use mathlib.Core.Bool.{◌&&◌, and-true, and_assoc}
use Rattle.std.specs.List.{list_all}
use Rattle.std.proofs.lemmas.List.{take_all}
use Rattle.consistency.specs.Consistency.{before, eight_before}
use Rattle.consistency.proofs.eight_before.Goals as goal

module _ (p : ℕ → Bool) where
  abbrev from : ℕ → ℕ → List ℕ → Bool
  from i zero cs = true
  from i (suc n) cs = p (get_or cs i 0) && from (suc i) n cs

  shifted : (x i n : ℕ) (cs : List ℕ) → from (suc i) n (x ∷ cs) ≡ from i n cs
  shifted x i zero cs = refl
  shifted x i (suc n) cs = rw (shifted x (suc i) n cs)

  by_place : (cs : List ℕ) → list_all p cs ≡ from 0 (length cs) cs
  by_place [] = refl
  by_place (x ∷ cs) = rw (by_place cs, shifted x 0 (length cs) cs)

eight : (k : ℕ) (cs : List ℕ) → length cs ≡ 8 → list_all (before k) cs ≡ eight_before k cs
eight k cs e = rw (by_place (before k) cs, e, and-true (before k (get_or cs 7 0))) (simp and_assoc)

pub returns : goal.returns
returns c =
    c.loop-event.invariant
    ∙ ap (list_all (before c.args.clock)) (take_all c.loop-event.event-index c.args.events (omega arith))
    ∙ eight c.args.clock c.args.events (omega arith)
