use Rattle.std.proofs.Common.{◌∙◌, ◌<◌, ◌/◌, arith, length, sym}
use borrow.Author.Tests.{ltb-true}
use Rattle.words.proofs.Listed.{chunk-word}
use Rattle.words.proofs.word_at.Goals as goal

pub returns-in-Some : goal.returns-in-Some
returns-in-Some c =
    let a = c.args in
    let found = c.in-Some.ensures.lookup in
    let inside : a.index < length a.bytes.now / 4 = omega (arith, ltb-true _ _ (sym found.0)) in
    c.from_le_bytes.ensures ∙ rw found.1 (chunk-word a.bytes.now a.index c.in-Some.word.now inside c.as_chunks.ensures.front)
