-- The refusals before this one do not apply.
use Rattle.std.proofs.Common.{◌≡◌, ℕ, ◌+◌, ◌<◌, true, ne_eqb, eq-eqb, lt-ltb, le-ltb}
use Rattle.basics.specs.Outcome.{value}
use Rattle.config.specs.Configuration.{timing_of}
use Rattle.config.specs.declared.Timing.{Timing}
use Rattle.stamps.specs.Stamps.{next_stamps, next_met}
use Rattle.stamps.specs.declared.Timestamps.{Timestamps}
use Rattle.rules.specs.Verdict.{accepted}
use Rattle.rules.specs.Breaches.{word_breach}
use Rattle.consistency.specs.Consistency.{clock_fits}
use Rattle.checker.specs.declared.checker.Checker.{Checker}
use Rattle.checker.specs.Steps.{step_of}
use Rattle.early.specs.Answers.{rule_number}
use Rattle.early.proofs.Numbered.{numbered}
use Rattle.checker.proofs.checker.Checker.take.Goals as goal

-- a word that breaks no rule
passes : (s : Checker) (t : Timing) (w : ℕ) {stamps : Timestamps} {met : ℕ} → value t ≡ timing_of s.config
    → true ≡ clock_fits s.clock s.met s.stamps → s.breach.number ≡ 0 → s.clock < 16777216
    → 0 ≡ word_breach t s.stamps s.clock s.met w → stamps ≡ next_stamps t.four s.stamps s.clock s.met w → met ≡ next_met s.met w
    → record {
      outcome = value accepted;
      after = record { config = s.config; clock = s.clock + 1; met = met; stamps = stamps; breach = s.breach };
    }
    ≡ step_of s w
passes s t w e f p l n a m = rw (← e, ← f, eq-eqb s.breach.number 0 p, lt-ltb s.clock 16777216 l, ← n, a, m)

pub returns-then-self-ne0 : goal.returns-then-self-ne0
returns-then-self-ne0 c =
    let fits = rw c.kept.ensures at c.if-not-clock_fits.ensures in
    rw (← c.in_ok-timing.ensures, ← fits, ne_eqb c.args.self.now.breach.number 0 c.if-self-ne0.true)

pub returns-then-self-ge-LIMIT : goal.returns-then-self-ge-LIMIT
returns-then-self-ge-LIMIT c =
    let fits = rw c.kept.ensures at c.if-not-clock_fits.ensures in
    let passed = eq-eqb c.args.self.now.breach.number 0 c.if-self-ne0.false in
    rw (← c.in_ok-timing.ensures, ← fits, passed, le-ltb c.args.self.now.clock 16777216 c.if-self-ge-LIMIT.true)

pub returns-in-Some : goal.returns-in-Some
returns-in-Some c =
    let fits = rw c.kept.ensures at c.if-not-clock_fits.ensures in
    let passed = eq-eqb c.args.self.now.breach.number 0 c.if-self-ne0.false in
    let found = rw c.kept-2.ensures at c.in-Some.ensures in
    let broken = ne_eqb (rule_number c.in-Some.rule) 0 (numbered c.in-Some.rule) in
    rw (
      ← c.in_ok-timing.ensures,
      ← fits,
      passed,
      lt-ltb c.args.self.now.clock 16777216 c.if-self-ge-LIMIT.false,
      ← found,
      c.number.ensures,
      broken,
    )

pub returns : goal.returns
returns c =
    let s = c.args.self.now in
    let fits = rw c.kept.ensures at c.if-not-clock_fits.ensures in
    let none = rw c.kept-2.ensures at c.in_default.ensures in
    let kept = rw c.figures.ensures at c.after-self.ensures in
    passes s c.in_ok-timing.timing c.args.word c.in_ok-timing.ensures fits c.if-self-ne0.false c.if-self-ge-LIMIT.false none
    kept c.next_met-self.ensures
