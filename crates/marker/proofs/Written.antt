-- A line that grew from nothing piece by piece holds the pieces, where these are at most 40 bytes.
use Prim.Native.Nat.{ℕ, ◌+◌, ◌≤◌}
use mathlib.Core.Path.{◌≡◌, refl}
use mathlib.Core.List.{List, ◌++◌}
use native.Mathlib.Omega.{arith}
use lib.ListN.{length, length-append}
use Rattle.line.specs.declared.Line.{Line}
use Rattle.line.specs.Lines.{empty_line, appended}
use Rattle.line.specs.Text.{text}
use Rattle.line.proofs.Appended.{joined, grown}

held : {r : Line} (a : List ℕ) → length a ≤ 40 → r ≡ appended empty_line a → (text r ≡ a) × (r.len ≤ 40)
held a h p =
    let whole = grown empty_line a refl (omega arith) in
    rw p (whole.0, omega (arith, whole.1))

pub three_pieces : {l₀ l₁ l₂ l₃ : Line} (a b c : List ℕ) → length a + length b + length c ≤ 40
    → l₀ ≡ empty_line → l₁ ≡ appended l₀ a → l₂ ≡ appended l₁ b → l₃ ≡ appended l₂ c
    → (text l₃ ≡ a ++ b ++ c) × (l₃.len ≤ 40)
three_pieces a b c h p₀ p₁ p₂ p₃ = held (a ++ b ++ c) (simp length-append h) (rw (p₃, p₂, p₁, p₀) (simp joined))

pub five_pieces : {l₀ l₁ l₂ l₃ l₄ l₅ : Line} (a b c d e : List ℕ) → length a + length b + length c + length d + length e ≤ 40
    → l₀ ≡ empty_line → l₁ ≡ appended l₀ a → l₂ ≡ appended l₁ b → l₃ ≡ appended l₂ c → l₄ ≡ appended l₃ d → l₅ ≡ appended l₄ e
    → (text l₅ ≡ a ++ b ++ c ++ d ++ e) × (l₅.len ≤ 40)
five_pieces a b c d e h p₀ p₁ p₂ p₃ p₄ p₅ =
    held (a ++ b ++ c ++ d ++ e) (simp length-append h) (rw (p₅, p₄, p₃, p₂, p₁, p₀) (simp joined))
