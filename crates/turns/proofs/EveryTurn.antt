-- The turns from an index on are split at the first; what a turn's words do to the history goes by the cases of a turn.
use Prim.Native.Nat.{ℕ, zero, suc, ◌+◌, ◌≤◌, ◌<◌}
use mathlib.Core.Path.{◌≡◌, refl, sym, ◌∙◌, ap, subst⁻¹}
use mathlib.Core.Bool.{Bool, true, false}
use mathlib.Core.List.{List, [], ◌∷◌, ◌++◌, nil≢cons}
use native.Mathlib.Omega.{arith}
use native.Mathlib.Numerals.{add-one}
use lib.ListN.{length, get_or, take, drop, drop_of_length-le}
use lib.Seq.{take-suc, length-take-le}
use Rattle.rules.specs.History.{ClosedPair, idle, Phase, pair, between, Past, nothing, next_pairs, extend, past_from}
use Rattle.rules.specs.Turns.{single, opens_pair, turns_from, pairs_in, pairs_of, NoneOpen}
use Rattle.rules.proofs.Words.{past_append}
use Rattle.rules.proofs.Turns.{rest_at, pair_extends, single_extends}
use Rattle.turns.specs.OneTurn.{Taken, turn_at}
use Rattle.turns.specs.EveryTurn.{taken_from, met_at, EveryTurn}
use Rattle.turns.proofs.OneTurn.{turns-split, TurnCase, ends, closes, alone, turn_case}

-- where a word is left, at least one is taken
onward : {words : List ℕ} {at : ℕ} {r : Taken} → TurnCase words at r → (n : ℕ) → length words ≤ suc n + at → length words ≤ n + r.next
onward (ends h) n l = omega arith
onward (closes h e) n l = omega arith
onward (alone h e) n l = omega arith

taken-from : (words : List ℕ) (n at : ℕ) → length words ≤ n + at → taken_from words n at ≡ turns_from at (drop at words)
taken-from words zero at h =
    let none : length words ≤ at = omega arith in
    sym (ap (turns_from at) (drop_of_length-le words none))
taken-from words (suc n) at h =
    ap (λ xs. (turn_at words at).turn ++ xs) (taken-from words n (turn_at words at).next (onward (turn_case words at) n h))
    ∙ sym (turns-split words at)

-- the past of an index, and of the next
abbrev before : List ℕ → ℕ → Past
before words at = past_from nothing (take at words)

past_next : (words : List ℕ) (at : ℕ) → at < length words → before words (at + 1) ≡ extend (before words at) (get_or words at 0)
past_next words at h = rw (add-one at, take-suc words at 0) (past_append nothing (take at words) (get_or words at 0))

clock-from : (p : Past) (ws : List ℕ) → (past_from p ws).clock ≡ p.clock + length ws
clock-from p [] = omega arith
clock-from p (w ∷ ws) =
    let h = clock-from (extend p w) ws in
    omega arith

-- two words that make a pair, behind a past where no pair is open
two-more : (k : ℕ) (o : Phase) (ps : List ClosedPair) (w v : ℕ) → NoneOpen o → opens_pair w ≡ true
    → extend (extend (record { clock = k; phase = o; pairs = ps }) w) v
    ≡ rest_at (k + 2) idle (record { start = k; first = w; second = v } ∷ ps)
two-more k (between r) ps w v n e = pair_extends k w v r ps e
two-more k (pair first) ps w v n e = absurd n

-- a single word there closes no pair, and opens none unless it is one that does
none-closed : (k : ℕ) (o : Phase) (ps : List ClosedPair) (w : ℕ) → NoneOpen o → next_pairs o k w ps ≡ ps
none-closed k (between r) ps w n = refl
none-closed k (pair first) ps w n = absurd n

none-opened : (k : ℕ) (o : Phase) (ps : List ClosedPair) (w : ℕ) → NoneOpen o → opens_pair w ≡ false
    → NoneOpen (extend (record { clock = k; phase = o; pairs = ps }) w).phase
none-opened k (between r) ps w n e = subst⁻¹ (λ p. NoneOpen p.phase) (single_extends k w r ps e) tt
none-opened k (pair first) ps w n e = absurd n

module _ (words : List ℕ) (at : ℕ) (none : NoneOpen (met_at words at)) where
  -- behind the two words of a pair
  pair-past : at + 1 < length words → opens_pair (get_or words at 0) ≡ true
      → before words (at + 1 + 1)
      ≡ rest_at (at + 2) idle (record { start = at; first = get_or words at 0; second = get_or words (at + 1) 0 } ∷ (before words at).pairs)
  pair-past h e =
      let p = before words at in
      let inside : at < length words = omega arith in
      let clock : p.clock ≡ at = omega (arith, clock-from nothing (take at words), length-take-le at words (omega arith)) in
      past_next words (at + 1) h
      ∙ ap (λ p. extend p (get_or words (at + 1) 0)) (past_next words at inside)
      ∙ two-more p.clock p.phase p.pairs (get_or words at 0) (get_or words (at + 1) 0) none e
      ∙ ap (λ k. rest_at (k + 2) idle (record { start = k; first = get_or words at 0; second = get_or words (at + 1) 0 } ∷ p.pairs)) clock

  none_open : {r : Taken} → TurnCase words at r → r.next < length words → NoneOpen (met_at words r.next)
  none_open (ends h) l = none
  none_open (closes h e) l = subst⁻¹ (λ p. NoneOpen p.phase) (pair-past h e) tt
  none_open (alone h e) l = subst⁻¹ (λ p. NoneOpen p.phase) (past_next words at h) (by (opens_pair (get_or words at 0)) refl)
    where
      by : (b : Bool) → opens_pair (get_or words at 0) ≡ b → NoneOpen (extend (before words at) (get_or words at 0)).phase
      by true o = absurd (let last = e o in omega arith)
      by false o = none-opened (before words at).clock (met_at words at) (before words at).pairs (get_or words at 0) none o

  closed-by : {r : Taken} → TurnCase words at r → pairs_of (take r.next words) ≡ pairs_in r.turn ++ pairs_of (take at words)
  closed-by (ends h) = refl
  closed-by (closes h e) = ap (λ p. p.pairs) (pair-past h e)
  closed-by (alone h e) =
      ap (λ p. p.pairs) (past_next words at h)
      ∙ none-closed (before words at).clock (met_at words at) (before words at).pairs (get_or words at 0) none

unclosed : {words : List ℕ} {at : ℕ} {r : Taken} → TurnCase words at r → (w : ℕ) → r.turn ≡ single at w ∷ [] → opens_pair w ≡ true
    → r.next ≡ length words
unclosed (ends h) w e o = absurd (nil≢cons e)
unclosed (closes h f) w e o = absurd (let z : ◌≡◌ {A = ℕ} 0 1 = cc in omega arith)
unclosed {words} {at} (alone h f) w e o =
    let same : get_or words at 0 ≡ w = cc in
    let last = f (rw same o) in
    omega arith

pub every_turn : EveryTurn
every_turn =
    record {
      some = refl;
      taken = λ words more. taken-from words (length words + more) 0 (omega arith);
      none_open = λ words at none h. none_open words at none (turn_case words at) (omega arith);
      closed-by = λ words at none. closed-by words at none (turn_case words at);
      unclosed = λ words at. unclosed (turn_case words at);
    }
