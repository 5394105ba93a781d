use Rattle.std.proofs.Common.{◌≡◌, ◌+◌, ◌-◌, ◌*◌, ◌%◌, ◌^◌, ◌<◌, ◌∙◌, ap, refl, arith, get_or}
use native.Mathlib.Nat.{mod-eq_of_lt}
use lib.Pow.{pow-lt}
use Rattle.words.specs.Words.{words_of}
use Rattle.words.proofs.Listed.{part-listed}
use Rattle.runs.specs.Runs.{agrees, marks}
use Rattle.runs.proofs.Marked.{marks-on, marks_off}
use Rattle.runs.proofs.marks_at.Goals as goal
use Rattle.runs.proofs.marks_at.Goals.{then-not-agrees, else-not-agrees}

pub loop-count-init : goal.loop-count-init
unfolding marks
loop-count-init g c = refl

pub loop-count-preserved : goal.loop-count-preserved
loop-count-preserved g c =
    let l = c.loop-count in
    let a = c.args in
    let ws = words_of a.bytes.now in
    let size : 4 * a.at + 4 * g.row.N - 4 * a.at ≡ 4 * g.row.N = omega arith in
    let word = part-listed a.bytes.now a.at g.row.N l.count (omega arith) (omega arith) in
    let here : c.agrees.result ≡ agrees a.upper.shift a.upper.top (get_or ws (a.at + l.count) 0) =
    c.agrees.ensures ∙ ap (agrees a.upper.shift a.upper.top) (rw size word) in
    elim c.if-not-agrees.branch [
      | then-not-agrees w ↦
          let fits : 2 ^ l.count < 2 ^ 32 = pow-lt {j = 32} (omega arith) in
          let bit : 1 * 2 ^ l.count % 2 ^ 32 ≡ 1 * 2 ^ l.count = mod-eq_of_lt (omega arith) in
          rw (w.marks-is, bit) (marks_off a.upper.shift a.upper.top ws a.at l.count l.invariant here w.if-not-agrees.true)
      | else-not-agrees w ↦ rw w.marks-is (marks-on a.upper.shift a.upper.top ws a.at l.count l.invariant here w.if-not-agrees.false)
    ]
