-- Appending in two goes is appending at once; and what fits stands behind the text.
use Prim.Native.Nat.{ℕ, ◌+◌, ◌≤◌}
use mathlib.Core.Path.{◌≡◌, refl, sym}
use mathlib.Core.List.{List, [], ◌∷◌, ◌++◌, append-nil}
use native.Mathlib.Omega.{arith}
use native.Mathlib.Numerals.{add-one}
use borrow.Author.Tests.{lt-ltb}
use lib.ListN.{length, set, length-set}
use lib.Seq.{append_snoc, take-suc-set}
use Rattle.line.specs.declared.Line.{Line}
use Rattle.line.specs.Lines.{pushed, appended}
use Rattle.line.specs.Text.{text}

pub joined : (l : Line) (a b : List ℕ) → appended (appended l a) b ≡ appended l (a ++ b)
joined l [] b = refl
joined l (x ∷ a) b = joined (pushed l x) a b

-- given the length of the array
pub grown : (l : Line) (bs : List ℕ) → length l.bytes ≡ 40 → l.len + length bs ≤ 40
    → (text (appended l bs) ≡ text l ++ bs) × ((appended l bs).len ≡ l.len + length bs)
grown l [] e h = (sym (append-nil _), omega arith)
grown l (b ∷ bs) e h =
    let next : Line = record { bytes = set l.bytes l.len b; len = l.len + 1 } in
    let rest = grown next bs (rw length-set e) (omega arith) in
    rw
    (lt-ltb l.len 40 (omega arith), appended)
    (rw (rest.0, add-one, take-suc-set l.bytes l.len b (omega arith)) (append_snoc (text l) b bs), omega (arith, rest.1))
