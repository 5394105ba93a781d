-- The leading words, and runs from there, each from where the one before it ends.
use Rattle.std.proofs.Common.{◌≡◌, ◌∙◌, List, ℕ, arith, length, ◌/◌, ◌%◌, min}
use Rattle.words.specs.Words.{words_of}
use Rattle.words.proofs.Listed.{words-length}
use Rattle.runs.specs.Runs.{run_end}
use Rattle.runs.proofs.Lead.{run_past, cut}
use Rattle.runs.proofs.past_run.Goals as goal

-- the run ends before `end` as it does before the lower of `end` and the number of words
ends : (shift top : ℕ) (bytes : List ℕ) (end from : ℕ) {stop : ℕ} → stop ≡ min end (length bytes / 4)
    → run_end shift top stop (words_of bytes) from ≡ run_end shift top end (words_of bytes) from
ends shift top bytes end from e = cut shift top (words_of bytes) end from (rw (words-length bytes) e)

pub returns-then-stop-from : goal.returns-then-stop-from
returns-then-stop-from c =
    let a = c.args in
    omega (arith, ends (a.shift % 32) a.top a.bytes.now a.end a.from c.min-stop.ensures)

pub returns-then-stop-from-lt16 : goal.returns-then-stop-from-lt16
returns-then-stop-from-lt16 c =
    let a = c.args in
    let shift : c.new-upper.result.shift ≡ a.shift % 32 = omega (arith, c.new-upper.ensures.0) in
    let singly = rw (shift, c.new-upper.ensures.1) at c.past_singly.ensures in
    singly ∙ ends (a.shift % 32) a.top a.bytes.now a.end a.from c.min-stop.ensures

pub returns : goal.returns
returns c =
    let a = c.args in
    let shift : c.new-upper.result.shift ≡ a.shift % 32 = omega (arith, c.new-upper.ensures.0) in
    let top = c.new-upper.ensures.1 in
    let lead = rw (shift, top) at c.leading-lead.ensures in
    let eights = rw (shift, top) at c.past_eights-at.ensures.1 in
    let singly = rw (shift, top) at c.past_singly-2.ensures in
    let past =
    run_past (a.shift % 32) a.top (words_of a.bytes.now) 16 a.from c.min-stop.result (omega (arith, lead)) (omega arith) in
    singly ∙ eights ∙ past ∙ ends (a.shift % 32) a.top a.bytes.now a.end a.from c.min-stop.ensures
