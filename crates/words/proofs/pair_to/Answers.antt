-- The two words of a pair, each from its four bytes.
use Rattle.std.proofs.Common.{◌≡◌, ◌∙◌, ◌-◌, ◌/◌, ◌<◌, arith, length, []}
use Rattle.words.specs.Words.{word_at}
use Rattle.words.proofs.Listed.{chunk-word, pair-there}
use Rattle.words.proofs.pair_to.Goals as goal

pub returns : goal.returns
returns c =
    let bytes = c.args.bytes.now in
    let i = c.args.index in
    let nonzero : i ≡ 0 → ⊥ = c.if-index-eq0.false in
    let inside : i < length bytes / 4 = omega arith in
    let first : c.from_le_bytes-first.result ≡ word_at bytes (i - 1) =
    c.from_le_bytes-first.ensures ∙ chunk-word bytes (i - 1) [] (omega arith) c.as_chunks.ensures.front in
    let second : c.from_le_bytes-second.result ≡ word_at bytes i =
    c.from_le_bytes-second.ensures ∙ chunk-word bytes i [] inside c.as_chunks.ensures.front in
    record {
      number = omega (arith, first, second, pair-there bytes i (omega arith) inside);
      first = λ pos h. omega (arith, first);
      second = λ pos h. omega (arith, second);
    }
