use Rattle.std.proofs.Common.{ℕ, ◌/◌, ◌≤◌, ◌<◌, ◌≡◌, sym, ◌∙◌, List, length, arith}
use Rattle.early.proofs.Numbered.{numbered}
use Rattle.config.specs.declared.Timing.{Timing}
use Rattle.words.specs.Words.{words_of}
use Rattle.words.proofs.Listed.{words-length, word-listed}
use Rattle.rules.specs.Verdict.{accepted, judge}
use Rattle.rules.proofs.Words.{run_is, run_breaches, run_ends}
use Rattle.bytecheck.specs.Passed.{Passed, Passes}
use Rattle.stamps.specs.declared.Kept.{Kept}
use Rattle.bytecheck.proofs.Passing.{passed-onward, run_from, passes-run, passed-run}
use Rattle.bytecheck.proofs.trace.Trace.judged.Goals as goal

-- at the end of the words
ends : (t : Timing) (bytes : List ℕ) (p : Kept) → judge t (words_of bytes) ≡ run_from t (words_of bytes) p
    → length bytes / 4 ≤ p.clock → accepted ≡ judge t (words_of bytes)
ends t bytes p e h = sym (e ∙ run_ends t p.stamps p.met (words_of bytes) p.clock (rw (words-length bytes) h))

pub loop-kept-init : goal.loop-kept-init
loop-kept-init c = rw c.start-kept.ensures (run_is c.args.self.timing (words_of c.args.self.bytes.now))

-- where the skimming ends
reached : {t : Timing} {ws : List ℕ} {from p : Kept} → judge t ws ≡ run_from t ws from → Passed t ws from p → judge t ws ≡ run_from t ws p
reached {t} {ws} is passed = is ∙ passed-run t ws passed

pub returns-in-Some : goal.returns-in-Some
returns-in-Some c =
    let bytes = c.args.self.bytes.now in
    let p = c.skimmed-kept.result in
    let inside : p.clock < length (words_of bytes) = rw (words-length bytes) c.if-self-clock.false in
    let word = c.word-word.ensures ∙ word-listed bytes p.clock c.if-self-clock.false in
    let number = c.number.ensures ∙ c.in-Some.ensures in
    let breaches = run_breaches c.args.self.timing p.stamps p.met (words_of bytes) p.clock inside word number in
    sym
    (reached c.loop-kept.invariant c.skimmed-kept.ensures
    ∙ breaches (rw c.number.ensures (numbered c.in-Some.rule)))

pub loop-kept-smaller : goal.loop-kept-smaller
loop-kept-smaller c = rw c.behind-kept.ensures (omega (arith, passed-onward c.skimmed-kept.ensures))

pub loop-kept-preserved : goal.loop-kept-preserved
loop-kept-preserved c =
    let t = c.args.self.timing in
    let bytes = c.args.self.bytes.now in
    let p = c.skimmed-kept.result in
    let word = c.word-word.ensures ∙ word-listed bytes p.clock c.if-self-clock.false in
    let passes : Passes t (words_of bytes) p c.behind-kept.result =
    record {
      inside = rw (words-length bytes) c.if-self-clock.false;
      sound = rw (← word) (sym c.in_default.ensures);
      leads = rw (← word) (rw c.figures-figures.ensures at c.behind-kept.ensures);
    } in
    reached c.loop-kept.invariant c.skimmed-kept.ensures ∙ passes-run t (words_of bytes) passes

pub returns-after-loop-kept : goal.returns-after-loop-kept
returns-after-loop-kept c = ends c.args.self.timing c.args.self.bytes.now c.loop-kept.kept c.loop-kept.invariant c.loop-kept-test.false

pub returns-then-self-clock : goal.returns-then-self-clock
returns-then-self-clock c =
    ends c.args.self.timing c.args.self.bytes.now c.skimmed-kept.result (reached c.loop-kept.invariant c.skimmed-kept.ensures)
    c.if-self-clock.true
