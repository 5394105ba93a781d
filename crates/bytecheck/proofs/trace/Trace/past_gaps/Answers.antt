use Rattle.std.proofs.Common.{ℕ, ◌+◌, ◌-◌, ◌/◌, ◌%◌, ◌^◌, ◌≤◌, ◌<◌, ◌≡◌, ◌∙◌, sym, ap, List, length, arith}
use lib.Count.{count_trailing_zeros}
use Rattle.config.specs.declared.Timing.{Timing}
use Rattle.config.specs.declared.figures.Figures.{Figures}
use Rattle.command.specs.Address.{bank_of}
use Rattle.words.specs.Words.{words_of}
use Rattle.words.proofs.Listed.{words-length, pair-listed}
use Rattle.runs.specs.Runs.{marks}
use Rattle.runs.proofs.Marked.{marks-none}
use Rattle.bytecheck.specs.declared.pairs.Track.{Track}
use Rattle.bytecheck.specs.Passed.{none}
use Rattle.bytecheck.proofs.Access.{Going, goes_on, goes_over, shifted}
use Rattle.bytecheck.proofs.Turns.{Marking, lowest, after-of}
use Rattle.bytecheck.proofs.trace.Trace.past_gaps.Goals as goal

pub loop-track-init : goal.loop-track-init
loop-track-init c = record { tracked = c.requires.1; passed = none }

-- past the DESL words before the next pair
over : {t : Timing} (bytes : List ℕ) {end : ℕ} {from k : Track} → Going t (words_of bytes) end from k → {stop m : ℕ}
    → Marking (words_of bytes) stop k.clock m → (m ≡ 0 → ⊥) → stop < end → end ≤ length bytes / 4 → length bytes / 4 ≤ 16777216
    → {lead : ℕ} → lead ≡ count_trailing_zeros 64 m → Going t (words_of bytes) end from (shifted k (k.clock + lead))
over bytes {end} {from} {k} going {stop} {m} marking some early listed short is =
    let low = lowest marking some in
    rw is
    (goes_over going (count_trailing_zeros 64 m) (omega (arith, low.inside)) (rw (words-length bytes) listed) (omega arith) low.before)

pub returns-then-not-clear : goal.returns-then-not-clear
returns-then-not-clear c =
    let l = c.loop-marks in
    let bytes = c.args.self.bytes.now in
    let lead = c.from-lead.result in
    let at : l.track.clock + lead + 1 - 1 ≡ l.track.clock + lead = omega arith in
    let passed =
    over bytes l.invariant.1 l.invariant.0 c.loop-marks-test.true c.loop-track-test.true c.requires.0 c.args.self.short
    c.from-lead.ensures in
    rw at (passed.tracked, passed.passed)

pub loop-marks-preserved : goal.loop-marks-preserved
loop-marks-preserved c =
    let l = c.loop-marks in
    let bytes = c.args.self.bytes.now in
    let stop = c.loop-track.track.clock + 58 in
    let lead = c.from-lead.result in
    let is : lead ≡ count_trailing_zeros 64 l.marks = c.from-lead.ensures in
    let inside : lead < stop - l.track.clock = rw is (lowest l.invariant.0 c.loop-marks-test.true).inside in
    let short : length bytes / 4 ≤ 16777216 = c.args.self.short in
    let fits : c.args.end ≤ length bytes / 4 = c.requires.0 in
    let early : stop < c.args.end = c.loop-track-test.true in
    let near : l.track.clock + lead + 1 ≤ stop = omega (arith, inside) in (
      record {
        before = omega (arith, near);
        since = omega (arith, l.invariant.0.since);
        marked = after-of (words_of bytes) l.track.clock stop lead l.marks l.invariant.0.marked;
      },
      goes_on (over bytes l.invariant.1 l.invariant.0 c.loop-marks-test.true early fits short is) (omega (arith, near))
          (rw (words-length bytes) fits) (omega arith) c.pair_to-pair.result
          (pair-listed bytes (l.track.clock + lead) c.pair_to-pair.ensures (omega (arith, near)))
          (c.bank-bank.ensures.0 ∙ ap (λ (f : Figures). bank_of f.four (c.pair_to-pair.result % 2 ^ 32)) c.figures.ensures)
          (rw c.of-limits.ensures.0 at c.clear.ensures c.if-not-clear.false),
    )

pub loop-track-preserved : goal.loop-track-preserved
loop-track-preserved c =
    let l = c.loop-marks in
    let bytes = c.args.self.bytes.now in
    let ws = words_of bytes in
    let stop = c.loop-track.track.clock + 58 in
    let marking = l.invariant.0 in
    let short : length bytes / 4 ≤ 16777216 = c.args.self.short in
    let fits : c.args.end ≤ length bytes / 4 = c.requires.0 in
    let to : c.max.result ≡ l.track.clock + (stop - l.track.clock) = omega (arith, c.max.ensures) in
    let none_left : marks 18 3 ws l.track.clock (stop - l.track.clock) ≡ 0 = sym marking.marked ∙ c.loop-marks-test.false in
    rw to
    (goes_over l.invariant.1 (stop - l.track.clock) (omega (arith, marking.before)) (rw (words-length bytes) fits) (omega arith)
    (marks-none 18 3 ws l.track.clock (stop - l.track.clock) none_left))
