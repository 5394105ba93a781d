-- The highest place counts, or the one below it is the highest.
use Rattle.std.proofs.Common.{◌≡◌, sym, ◌∙◌, ℕ, suc, ◌+◌, ◌-◌, ◌*◌, ◌<◌, List, get_or, ne_eqb, add-one, arith}
use Rattle.rules.specs.Breaches.{deadline_by}
use Rattle.early.proofs.deadline.Goals as goal

module _ (refi : ℕ) (refs : List ℕ) where
  counts : (m i : ℕ) → m ≡ suc i → (get_or refs i 0 ≡ 0 → ⊥) → deadline_by m refi refs ≡ get_or refs i 0 + (i + 1) * refi
  counts m i is e = rw (is, ne_eqb (get_or refs i 0) 0 e, add-one i)

  below : (m i : ℕ) → m ≡ suc i → get_or refs i 0 ≡ 0 → deadline_by m refi refs ≡ deadline_by i refi refs
  below m i is e = rw (is, e)

above : (a b : ℕ) → (a ≡ 0 → ⊥) → 0 < a + b
above a b e = omega arith

pub returns-then-refs-i-ne0 : goal.returns-then-refs-i-ne0
returns-then-refs-i-ne0 c =
    rw (c.from.ensures, c.from-then-refs-i-ne0.ensures) (
      sym (counts c.args.refi c.args.refs c.loop-i.i (c.loop-i.i - 1) (omega arith) c.if-refs-i-ne0.true) ∙ c.loop-i.invariant,
      above _ _ c.if-refs-i-ne0.true,
    )

pub loop-i-preserved : goal.loop-i-preserved
loop-i-preserved c =
    sym (below c.args.refi c.args.refs c.loop-i.i (c.loop-i.i - 1) (omega arith) c.if-refs-i-ne0.false) ∙ c.loop-i.invariant
