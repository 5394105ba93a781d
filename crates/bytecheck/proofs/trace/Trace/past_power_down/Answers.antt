-- One word goes low, a run of low words changes nothing, and two wake-up words lead back.
use Rattle.std.proofs.Common.{ℕ, ◌+◌, ◌/◌, ◌^◌, ◌<◌, ◌≡◌, refl, ◌∙◌, subst, Bool, true, false, not, ◌||◌, nat_eq, length, arith}
use borrow.Author.Tests.{eqb-true}
use Rattle.words.specs.Words.{words_of}
use Rattle.words.proofs.Listed.{words-length, word-listed}
use Rattle.rules.specs.Breaches.{must_stay_high}
use Rattle.bytecheck.specs.Passed.{Passed, none, more}
use Rattle.bytecheck.specs.Quick.{idle_at}
use Rattle.bytecheck.proofs.Passing.{low_quiet, low-passes, exit_passes, passed_on}
use Rattle.bytecheck.proofs.trace.Trace.past_power_down.Goals as goal

-- neither test of the wake-up words holds
both-desl : (v w : ℕ) → (not (nat_eq (v / 2 ^ 18) 3) || not (nat_eq (w / 2 ^ 18) 3)) ≡ false → (v / 2 ^ 18 ≡ 3) × (w / 2 ^ 18 ≡ 3)
both-desl v w e = by (nat_eq (v / 2 ^ 18) 3) (nat_eq (w / 2 ^ 18) 3) refl refl e
  where
    by : (a b : Bool) → nat_eq (v / 2 ^ 18) 3 ≡ a → nat_eq (w / 2 ^ 18) 3 ≡ b → (not a || not b) ≡ false
        → (v / 2 ^ 18 ≡ 3) × (w / 2 ^ 18 ≡ 3)
    by true true p q h = (eqb-true (v / 2 ^ 18) 3 p, eqb-true (w / 2 ^ 18) 3 q)
    by true false p q h = absurd (cc h)
    by false b p q h = absurd (cc h)

pub returns : goal.returns
returns c =
    let a = c.args in
    let bytes = a.self.bytes.now in
    let ws = words_of bytes in
    let at = c.past_run-at.result in
    let run = c.past_run-at.ensures in
    let v = c.word-first_exit.result in
    let w = c.word-second_exit.result in
    let low : c.word-word.result / 2 ^ 18 ≡ 1 = omega arith in
    let may : must_stay_high a.self.timing a.stamps a.clock ≡ false = cc in
    let tests : (not (nat_eq (v / 2 ^ 18) 3) || not (nat_eq (w / 2 ^ 18) 3)) ≡ false = cc in
    let kinds = both-desl v w tests in
    let one : at + 1 + 1 ≡ at + 2 = omega arith in
    let k₀ : a.clock < length bytes / 4 = omega arith in
    let k₁ : at < length bytes / 4 = omega arith in
    let k₂ : at + 1 < length bytes / 4 = omega arith in (
      omega (arith, run.0),
      λ due.
          let goes =
          low-passes a.self.timing ws (idle_at a.clock a.stamps) (rw (words-length bytes) k₀)
          (c.word-word.ensures ∙ word-listed bytes a.clock k₀) (due a.clock (omega arith)) refl low may in
          let wakes₁ =
          exit_passes a.self.timing ws (record { clock = at; met = 0x40000; stamps = a.stamps }) (rw (words-length bytes) k₁)
          (c.word-first_exit.ensures ∙ word-listed bytes at k₁) (due at (omega arith)) refl refl kinds.0 in
          let wakes₂ =
          exit_passes a.self.timing ws (record { clock = at + 1; met = 0xE0000; stamps = a.stamps }) (rw (words-length bytes) k₂)
          (c.word-second_exit.ensures ∙ word-listed bytes (at + 1) k₂) (due (at + 1) (omega arith)) refl refl kinds.1 in
          subst (λ j. Passed a.self.timing ws (idle_at a.clock a.stamps) (idle_at j a.stamps)) one
          (more (more (passed_on (more none goes) (run.1 0x40000 low_quiet a.self.timing a.stamps due)) wakes₁) wakes₂),
    )
