-- A bit set above the marks keeps their zeros, and ends them.
use Rattle.std.proofs.Common.{◌≡◌, ◌+◌, ◌*◌, ◌^◌, ◌∙◌, arith}
use lib.Bits.{bit_or, or_shifted_r}
use Rattle.words.specs.Words.{words_of}
use Rattle.words.proofs.Listed.{words-length}
use Rattle.runs.proofs.Marked.{marks_lt, marks_lead}
use Rattle.runs.proofs.leading.Goals as goal

pub returns : goal.returns
returns c =
    let a = c.args in
    let ws = words_of a.bytes.now in
    let m = c.marks_at-marks.result in
    let small = marks_lt a.upper.shift a.upper.top ws a.at 16 in
    let sum : bit_or m (1 * 2 ^ 16) ≡ m + 1 * 2 ^ 16 = or_shifted_r 1 16 m (rw c.marks_at-marks.ensures small) ∙ omega arith in
    rw (sum, c.marks_at-marks.ensures) (marks_lead a.upper.shift a.upper.top ws 15 a.at 16 (rw (words-length a.bytes.now) (omega arith)))
