-- Each contract is an equation whose right side computes here, and some part of it is another constructor or another number.
use Prim.Native.Nat.{ℕ}
use mathlib.Core.Path.{◌≡◌, sym, ◌∙◌, ap}
use mathlib.Core.List.{List, []}
use native.Mathlib.Omega.{arith}
use lib.ListN.{length}
use Rattle.basics.specs.Outcome.{Outcome, value}
use Rattle.walks.specs.Walk.{Reached, passed, ended}
use Rattle.excluded.specs.Cursors.{passing, Cursors}

not-ended : ◌≡◌ {A = Outcome Reached} (value ended) (value passed) → ⊥
not-ended e = let z : ◌≡◌ {A = ℕ} 0 1 = cc in omega arith

same-words : {u v : List ℕ} → u ≡ [] → v ≡ passing → u ≡ v → ⊥
same-words e f p = let z : ◌≡◌ {A = ℕ} 0 1 = ap length (sym e ∙ p ∙ f) in omega arith

pub cursors : Cursors
cursors =
    record {
      new_at-clock-1 = λ words r e p. let z : ◌≡◌ {A = ℕ} 1 0 = sym e ∙ ap (λ k. k.clock) p.1 in omega arith;
      new_without-words = λ words r e f p. same-words f e (ap (λ w. w.now) p.0);
      advance-stays = λ a p. let z : ◌≡◌ {A = ℕ} 0 1 = ap (λ m. m.after.clock) p in omega arith;
      advance-ends-early = λ after p. not-ended (ap (λ m. m.outcome) p);
      advance-past-a-breach = λ a after e p. let z : ◌≡◌ {A = ℕ} 1 0 = sym e ∙ ap (λ m. m.after.clock) p in omega arith;
      advance-words_lost = λ s after a e f p. same-words f e (ap (λ w. w.now) p.0);
    }
