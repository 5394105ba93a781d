-- By the turns in order: a turn of two words leads from one place where no pair is open to the next by way of its pair, and a single word
-- that opens none leads there directly; one that opens a pair is the last.
use Prim.Native.Nat.{ℕ, ◌+◌, ◌-◌}
use mathlib.Core.Path.{◌≡◌, refl, sym, ◌∙◌, ap, subst⁻¹}
use mathlib.Core.Bool.{Bool, true, false, cond, ◌&&◌, true≢false}
use mathlib.Core.List.{List, [], ◌∷◌, ◌++◌, reverse_aux, nil≢cons, head-eq_of_cons-eq, tail-eq_of_cons-eq}
use native.Mathlib.Omega.{arith}
use lib.ListN.{length}
use Rattle.command.specs.Pins.{high}
use Rattle.command.specs.Pairs.{selected}
use Rattle.rules.specs.History.{ClosedPair, idle, powered_down, Rest, pair, between, Past, after_desl, extend, past_from}
use Rattle.rules.specs.Turns.{Turn, closed, single, opens_pair, turns_from, words_in_all, clock_of, pairs_in, NoneOpen, Turns}

-- words from a clock on and their turns, by the four ways in which a turn is taken: what is shown of these is shown of every trace
pub data Turned : ℕ → List ℕ → List Turn → Type 0 where
  ended : {k : ℕ} → Turned k [] []
  last : {k w : ℕ} → Turned k (w ∷ []) (single k w ∷ [])
  paired : {k w v : ℕ} {ws : List ℕ} {xs : List Turn} → opens_pair w ≡ true → Turned (k + 2) ws xs
      → Turned k (w ∷ v ∷ ws) (closed (record { start = k; first = w; second = v }) ∷ xs)
  alone : {k w v : ℕ} {ws : List ℕ} {xs : List Turn} → opens_pair w ≡ false → Turned (k + 1) (v ∷ ws) xs
      → Turned k (w ∷ v ∷ ws) (single k w ∷ xs)

pub turned : (k : ℕ) (ws : List ℕ) → Turned k ws (turns_from k ws)
turned k [] = ended
turned k (w ∷ []) = last
turned k (w ∷ v ∷ ws) = by (opens_pair w) refl (turned (k + 2) ws) (turned (k + 1) (v ∷ ws))
  where
    by : (b : Bool) → opens_pair w ≡ b → Turned (k + 2) ws (turns_from (k + 2) ws) → Turned (k + 1) (v ∷ ws) (turns_from (k + 1) (v ∷ ws))
        → Turned k (w ∷ v ∷ ws)
        (elim b [
          | true ↦ closed (record { start = k; first = w; second = v }) ∷ turns_from (k + 2) ws
          | false ↦ single k w ∷ turns_from (k + 1) (v ∷ ws)
        ])
    by true e two one = paired e two
    by false e two one = alone e one

covered : {k : ℕ} {ws : List ℕ} {xs : List Turn} → Turned k ws xs → words_in_all xs ≡ ws
covered ended = refl
covered last = refl
covered (paired {w = w} {v = v} e t) = ap (λ ws. w ∷ v ∷ ws) (covered t)
covered (alone {w = w} e t) = ap (λ ws. w ∷ ws) (covered t)

-- a past where no pair is open
abbrev pub rest_at : ℕ → Rest → List ClosedPair → Past
rest_at k r ps = record { clock = k; phase = between r; pairs = ps }

-- behind a word that opens a pair and the next, which closes it
pub pair_extends : (k w v : ℕ) (r : Rest) (ps : List ClosedPair) → opens_pair w ≡ true
    → extend (extend (rest_at k r ps) w) v ≡ rest_at (k + 2) idle (record { start = k; first = w; second = v } ∷ ps)
pair_extends k w v r ps e =
    let from : k + 1 - 1 ≡ k = omega arith in
    let next : k + 1 + 1 ≡ k + 2 = omega arith in
    rw (opened (high 19 w) (selected w) e, from, next)
  where
    opened : (h s : Bool) → (h && s) ≡ true → cond h (cond s (pair w) (between (after_desl r))) (between powered_down) ≡ pair w
    opened true true e = refl
    opened true false e = absurd (true≢false (sym e))
    opened false s e = absurd (true≢false (sym e))

-- what no pair is open behind, for a word that opens none
abbrev pub rest_after : Rest → ℕ → Rest
rest_after r w = cond (high 19 w) (after_desl r) powered_down

pub single_extends : (k w : ℕ) (r : Rest) (ps : List ClosedPair) → opens_pair w ≡ false
    → extend (rest_at k r ps) w ≡ rest_at (k + 1) (rest_after r w) ps
single_extends k w r ps e = ap (λ o. record { clock = k + 1; phase = o; pairs = ps }) (by (high 19 w) (selected w) e)
  where
    by : (h s : Bool) → (h && s) ≡ false
        → cond h (cond s (pair w) (between (after_desl r))) (between powered_down) ≡ between (cond h (after_desl r) powered_down)
    by true true e = absurd (true≢false e)
    by true false e = refl
    by false s e = refl

pairs-from : {k : ℕ} {ws : List ℕ} {xs : List Turn} → Turned k ws xs → (r : Rest) (ps : List ClosedPair)
    → reverse_aux (pairs_in xs) ps ≡ (past_from (rest_at k r ps) ws).pairs
pairs-from ended r ps = refl
pairs-from last r ps = refl
pairs-from (paired {k = k} {w = w} {v = v} {ws = ws} e t) r ps =
    pairs-from t idle (record { start = k; first = w; second = v } ∷ ps)
    ∙ ap (λ p. (past_from p ws).pairs) (sym (pair_extends k w v r ps e))
pairs-from (alone {k = k} {w = w} {v = v} {ws = ws} e t) r ps =
    pairs-from t (rest_after r w) ps ∙ ap (λ p. (past_from p (v ∷ ws)).pairs) (sym (single_extends k w r ps e))

-- a turn stands behind the words of those before it, where no pair is open
abbrev Placed : Past → List Turn → Turn → Type 0
Placed p before x = (clock_of x ≡ p.clock + length (words_in_all before)) × NoneOpen (past_from p (words_in_all before)).phase

placed-from : {k : ℕ} {ws : List ℕ} {xs : List Turn} → Turned k ws xs
    → (r : Rest) (ps : List ClosedPair) (before after : List Turn) (x : Turn)
    → xs ≡ before ++ x ∷ after → Placed (rest_at k r ps) before x
placed-from ended r ps [] after x e = absurd (nil≢cons e)
placed-from ended r ps (y ∷ before) after x e = absurd (nil≢cons e)
placed-from (last {k = k}) r ps [] after x e = (sym (ap clock_of (head-eq_of_cons-eq e)) ∙ omega arith, tt)
placed-from last r ps (y ∷ []) after x e = absurd (nil≢cons (tail-eq_of_cons-eq e))
placed-from last r ps (y ∷ z ∷ before) after x e = absurd (nil≢cons (tail-eq_of_cons-eq e))
placed-from (paired {k = k} o t) r ps [] after x e = (sym (ap clock_of (head-eq_of_cons-eq e)) ∙ omega arith, tt)
placed-from (paired {k = k} {w = w} {v = v} o t) r ps (y ∷ before) after x e =
    let pr : ClosedPair = record { start = k; first = w; second = v } in
    let h = placed-from t idle (pr ∷ ps) before after x (tail-eq_of_cons-eq e) in
    let at = h.0 in
    subst⁻¹ (λ y. Placed (rest_at k r ps) (y ∷ before) x) (sym (head-eq_of_cons-eq e))
    (omega arith, subst⁻¹ (λ p. NoneOpen (past_from p (words_in_all before)).phase) (pair_extends k w v r ps o) h.1)
placed-from (alone {k = k} o t) r ps [] after x e = (sym (ap clock_of (head-eq_of_cons-eq e)) ∙ omega arith, tt)
placed-from (alone {k = k} {w = w} o t) r ps (y ∷ before) after x e =
    let h = placed-from t (rest_after r w) ps before after x (tail-eq_of_cons-eq e) in
    let at = h.0 in
    subst⁻¹ (λ y. Placed (rest_at k r ps) (y ∷ before) x) (sym (head-eq_of_cons-eq e))
    (omega arith, subst⁻¹ (λ p. NoneOpen (past_from p (words_in_all before)).phase) (single_extends k w r ps o) h.1)

pub turns : Turns
turns =
    record {
      covered = λ ws. covered (turned 0 ws);
      placed =
          λ ws before after x e.
          let h = placed-from (turned 0 ws) idle [] before after x e in
          let at = h.0 in
          (omega arith, h.1);
      pairs = λ ws. pairs-from (turned 0 ws) idle [];
    }
