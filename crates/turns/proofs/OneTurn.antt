-- One turn by what stands from its index on: nothing, two words that make a pair, or a word that is taken alone.
use Prim.Native.Nat.{ℕ, ◌+◌, ◌≤◌, ◌<◌}
use mathlib.Core.Path.{◌≡◌, refl, sym, ◌∙◌, ap, subst⁻¹}
use mathlib.Core.Bool.{Bool, true, false, true≢false}
use mathlib.Core.List.{List, [], ◌∷◌, ◌++◌}
use native.Mathlib.Omega.{arith}
use native.Mathlib.Numerals.{add-one}
use native.Mathlib.Nat.{add-zero}
use borrow.Author.Tests.{ltb-true, ltb-false}
use lib.Dec.{ltb}
use lib.ListN.{length, take, drop, get_or, drop_of_length-le}
use lib.Seq.{drop-cons, drop-drop}
use Rattle.rules.specs.Turns.{Turn, closed, single, opens_pair, turns_from, words_in_all}
use Rattle.turns.specs.OneTurn.{Taken, turn_at}

-- the turns of two words and more, by whether the first opens a pair
abbrev by_first : ℕ → ℕ → ℕ → List ℕ → Bool → List Turn
by_first k w v ws b =
    elim b [
      | true ↦ closed (record { start = k; first = w; second = v }) ∷ turns_from (k + 2) ws
      | false ↦ single k w ∷ turns_from (k + 1) (v ∷ ws)
    ]

turns-closed : (k w v : ℕ) (ws : List ℕ) → opens_pair w ≡ true
    → turns_from k (w ∷ v ∷ ws) ≡ closed (record { start = k; first = w; second = v }) ∷ turns_from (k + 2) ws
turns-closed k w v ws e = ap (by_first k w v ws) e

turns-single : (k w : ℕ) (ws : List ℕ) → opens_pair w ≡ false → turns_from k (w ∷ ws) ≡ single k w ∷ turns_from (k + 1) ws
turns-single k w [] e = refl
turns-single k w (v ∷ ws) e = ap (by_first k w v ws) e

-- how many words the first of the turns takes
abbrev size : List Turn → ℕ
size xs = length (words_in_all (take 1 xs))

-- the turns from an index on are the one that is taken there and those from the index behind it
pub turns-split : (words : List ℕ) (at : ℕ)
    → turns_from at (drop at words) ≡ (turn_at words at).turn ++ turns_from (turn_at words at).next (drop (turn_at words at).next words)
turns-split words at =
    split at (drop at words)
    ∙ ap (λ ws. (turn_at words at).turn ++ turns_from (turn_at words at).next ws) (drop-drop (size (turns_from at (drop at words))) at words)
  where
    split : (k : ℕ) (ws : List ℕ)
        → turns_from k ws ≡ take 1 (turns_from k ws) ++ turns_from (k + size (turns_from k ws)) (drop (size (turns_from k ws)) ws)
    split k [] = refl
    split k (w ∷ []) = refl
    split k (w ∷ v ∷ ws) = by (opens_pair w)
      where
        by : (b : Bool)
            → by_first k w v ws b
            ≡ take 1 (by_first k w v ws b) ++ turns_from (k + size (by_first k w v ws b)) (drop (size (by_first k w v ws b)) (w ∷ v ∷ ws))
        by true = refl
        by false = refl

-- what a turn takes at an index, in its three cases: nothing, both words of a pair, or a single word
abbrev no_turn : ℕ → Taken
no_turn at = record { turn = []; next = at }

abbrev pair_turn : List ℕ → ℕ → Taken
pair_turn words at =
    record { turn = closed (record { start = at; first = get_or words at 0; second = get_or words (at + 1) 0 }) ∷ []; next = at + 1 + 1 }

abbrev single_turn : List ℕ → ℕ → Taken
single_turn words at = record { turn = single at (get_or words at 0) ∷ []; next = at + 1 }

from-word : (words : List ℕ) (at : ℕ) → at < length words → drop at words ≡ get_or words at 0 ∷ drop (at + 1) words
from-word words at h = rw (add-one, drop-cons words at 0)

module _ (words : List ℕ) (at : ℕ) where
  pub turn-ends : length words ≤ at → turn_at words at ≡ no_turn at
  turn-ends h = rw (drop_of_length-le words h) (ap no_turn (add-zero at))

  module _ (inside : at < length words) where
    pub turn-closes : at + 1 < length words → opens_pair (get_or words at 0) ≡ true → turn_at words at ≡ pair_turn words at
    turn-closes more e =
        let two : at + 1 + 1 ≡ at + 2 = omega arith in
        rw (
          from-word words at inside,
          from-word words (at + 1) more,
          turns-closed at (get_or words at 0) (get_or words (at + 1) 0) (drop (at + 1 + 1) words) e,
          two,
        )

    pub turn_last : length words ≤ at + 1 → turn_at words at ≡ single_turn words at
    turn_last h = rw (from-word words at inside, drop_of_length-le words h)

    pub turn_alone : opens_pair (get_or words at 0) ≡ false → turn_at words at ≡ single_turn words at
    turn_alone e = rw (from-word words at inside, turns-single at (get_or words at 0) (drop (at + 1) words) e)

-- by these cases: what is shown of them is shown of every turn
pub data TurnCase (words : List ℕ) (at : ℕ) : Taken → Type 0 where
  ends : length words ≤ at → TurnCase words at (no_turn at)
  closes : at + 1 < length words → opens_pair (get_or words at 0) ≡ true → TurnCase words at (pair_turn words at)
  alone : at < length words → (opens_pair (get_or words at 0) ≡ true → length words ≡ at + 1) → TurnCase words at (single_turn words at)

pub turn_case : (words : List ℕ) (at : ℕ) → TurnCase words at (turn_at words at)
turn_case words at = by (ltb at (length words)) refl (ltb (at + 1) (length words)) refl (opens_pair (get_or words at 0)) refl
  where
    is : {r : Taken} → turn_at words at ≡ r → TurnCase words at r → TurnCase words at (turn_at words at)
    is e = subst⁻¹ (TurnCase words at) e

    by : (b : Bool) → ltb at (length words) ≡ b → (c : Bool) → ltb (at + 1) (length words) ≡ c
        → (d : Bool) → opens_pair (get_or words at 0) ≡ d → TurnCase words at (turn_at words at)
    by false e c f d g =
        let h = ltb-false at (length words) e in
        is (turn-ends words at h) (ends h)
    by true e false f d g =
        let h = ltb-true at (length words) e in
        let last = ltb-false (at + 1) (length words) f in
        is (turn_last words at h last) (alone h (λ _. omega arith))
    by true e true f true g =
        let more = ltb-true (at + 1) (length words) f in
        is (turn-closes words at (ltb-true at (length words) e) more g) (closes more g)
    by true e true f false g =
        let h = ltb-true at (length words) e in
        is (turn_alone words at h g) (alone h (λ o. absurd (true≢false (sym o ∙ g))))
