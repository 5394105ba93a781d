use Rattle.std.proofs.Common.{◌≡◌, true, false, Bool, ◌+◌, ◌<◌, ◌&&◌, arith, refl, length}
use Rattle.words.specs.Words.{words_of}
use Rattle.words.proofs.Listed.{words-length}
use Rattle.runs.proofs.Lead.{lead-on, lead-past}
use Rattle.runs.proofs.eight_agree.Goals as goal

both : (a b : Bool) → (a && b) ≡ true → (a ≡ true) × (b ≡ true)
both true b e = (refl, e)
both false b e = (e, absurd (cc e))

pub loop-count-preserved : goal.loop-count-preserved
loop-count-preserved c =
    let l = c.loop-count in
    let a = c.args in
    let ws = words_of a.bytes.now in
    λ e.
    let h = both l.all c.agrees-all.result e in
    let inside : a.at + l.count < length ws = rw (words-length a.bytes.now) (omega arith) in
    let on = lead-on a.upper.shift a.upper.top ws (a.at + l.count) inside c.agrees-all.ensures h.1 in
    omega (arith, lead-past a.upper.shift a.upper.top ws l.count a.at (l.invariant h.0))
