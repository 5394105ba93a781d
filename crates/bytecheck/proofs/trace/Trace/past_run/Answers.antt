-- Each word of the run is there, agrees, and stands before `end`.
use Rattle.std.proofs.Common.{ℕ, ◌≡◌, ◌+◌, ◌-◌, ◌%◌, min, drop, arith}
use Rattle.words.specs.Words.{words_of}
use Rattle.runs.specs.Runs.{leading}
use Rattle.runs.proofs.Lead.{in_run}
use Rattle.bytecheck.proofs.Passing.{quiet_on}
use Rattle.bytecheck.proofs.trace.Trace.past_run.Goals as goal

pub returns : goal.returns
returns c =
    let a = c.args in
    let shift = a.upper.shift in
    let top = a.upper.top in
    let ws = words_of a.self.bytes.now in
    let n : ℕ = min (a.end - a.clock) (leading shift top (drop a.clock ws)) in
    let inside : shift % 32 ≡ shift = omega arith in
    rw (c.past_run.ensures, inside) (
      omega arith,
      λ first quiet t s due.
          quiet_on shift top quiet t s ws a.clock n (λ i h. in_run shift top ws a.clock i (omega arith))
          (λ i h. due (a.clock + i) (omega arith)),
    )
