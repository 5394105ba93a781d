-- Two halves, the second above the first.
use Rattle.std.proofs.Common.{ℕ, List, ◌≡◌, ◌+◌, ◌*◌, ◌/◌, ◌%◌, ◌^◌, ◌≤◌, arith, sym, length}
use Rattle.words.specs.Words.{words_of}
use Rattle.words.proofs.Listed.{words-length}
use Rattle.runs.specs.Runs.{marks, marks_from}
use Rattle.runs.proofs.Marked.{marks_join, marks-there, marks_missing}
use Rattle.runs.proofs.marks_from.Goals as goal

-- the two halves, where the bytes hold all the words
joined : (shift top : ℕ) (bytes : List ℕ) (from low high : ℕ) → from + 58 ≤ length bytes / 4
    → low ≡ marks shift top (words_of bytes) from 29 → high ≡ marks shift top (words_of bytes) (from + 29) 29
    → low + high * 2 ^ 29 ≡ marks_from shift top (words_of bytes) from
joined shift top bytes from low high h l u =
    omega (
      arith,
      marks-there shift top (words_of bytes) from (omega (arith, words-length bytes)),
      marks_join shift top (words_of bytes) from 29 29,
    )

pub returns-then-count-lt58 : goal.returns-then-count-lt58
returns-then-count-lt58 c =
    let a = c.args in
    sym (marks_missing (a.shift % 32) a.top (words_of a.bytes.now) a.from (omega (arith, words-length a.bytes.now)))

pub returns-then-high-eq0 : goal.returns-then-high-eq0
returns-then-high-eq0 c =
    let a = c.args in
    let shift : c.new-upper_bits.result.shift ≡ a.shift % 32 = omega (arith, c.new-upper_bits.ensures.0) in
    let low = rw (shift, c.new-upper_bits.ensures.1) at c.marks_at-low.ensures in
    let high = rw (shift, c.new-upper_bits.ensures.1) at c.marks_at-high.ensures in
    omega (
      arith,
      joined (a.shift % 32) a.top a.bytes.now a.from c.marks_at-low.result c.marks_at-high.result (omega arith) low high,
    )

pub returns : goal.returns
returns c =
    let a = c.args in
    let shift : c.new-upper_bits.result.shift ≡ a.shift % 32 = omega (arith, c.new-upper_bits.ensures.0) in
    let low = rw (shift, c.new-upper_bits.ensures.1) at c.marks_at-low.ensures in
    let high = rw (shift, c.new-upper_bits.ensures.1) at c.marks_at-high.ensures in
    joined (a.shift % 32) a.top a.bytes.now a.from c.marks_at-low.result c.marks_at-high.result (omega arith) low high
