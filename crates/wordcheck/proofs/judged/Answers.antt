-- A run over what is kept gives the verdict, from the first word on; a word that breaches a rule ends it.
use Rattle.std.proofs.Common.{refl, sym, ap, ◌∙◌, get_or, arith}
use Rattle.early.proofs.Numbered.{numbered}
use Rattle.rules.proofs.Words.{run_is, run_breaches}
use Rattle.wordcheck.proofs.judged.Goals as goal

pub loop-word-init : goal.loop-word-init
loop-word-init c = rw c.start-kept.ensures (refl, run_is c.args.timing c.args.words.now)

pub returns-in-Some : goal.returns-in-Some
returns-in-Some c =
    let kept = c.loop-word.kept in
    let number = c.number.ensures ∙ c.in-Some.ensures in
    let word = ap (λ k. get_or c.args.words.now k 0) (sym c.loop-word.invariant.0) in
    let breaches = run_breaches c.args.timing kept.stamps kept.met c.args.words.now kept.clock (omega arith) word number in
    sym (c.loop-word.invariant.1 ∙ breaches (rw c.number.ensures (numbered c.in-Some.rule)))
