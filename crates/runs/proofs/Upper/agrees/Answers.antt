-- A shift to the right divides.
use Rattle.std.proofs.Common.{◌/◌, ◌∙◌, ◌^◌, ap, nat_eq}
use Rattle.words.proofs.Listed.{word-listed}
use Rattle.runs.proofs.Upper.agrees.Goals as goal

pub returns : goal.returns
returns c =
    let a = c.args in
    ap (λ w. nat_eq (w / 2 ^ a.self.shift) a.self.top) (c.word_at.ensures ∙ word-listed a.bytes.now a.at c.requires)
