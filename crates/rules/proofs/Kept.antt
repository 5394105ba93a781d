-- What is kept is the summary of the past, word by word.
use Prim.Native.Nat.{ℕ}
use mathlib.Core.Path.{◌≡◌, refl, sym, ◌∙◌, ap}
use mathlib.Core.Bool.{Bool}
use mathlib.Core.List.{List, [], ◌∷◌}
use native.Mathlib.Omega.{arith}
use Rattle.rules.specs.History.{Past, nothing, extend, past_from}
use Rattle.rules.specs.Breaches.{word_breach}
use Rattle.rules.specs.Kept.{met_of, kept_from, Enough}
use Rattle.stamps.specs.declared.Kept.{Kept}
use Rattle.rules.proofs.Summary.{summary}
use Rattle.rules.proofs.Words.{Regular, regular-extend, breach-is, stamps-is, met-is}

abbrev of : Bool → Past → Kept
of four p = record { clock = p.clock; met = met_of p.phase; stamps = summary four p.pairs }

kept_from_lem : (four : Bool) (p : Past) (ws : List ℕ) → Regular p.phase p.clock p.pairs
    → let q = past_from p ws in (kept_from four (of four p) ws ≡ of four q) × Regular q.phase q.clock q.pairs
kept_from_lem four p [] r = (refl, r)
kept_from_lem four p (w ∷ ws) r =
    let rest = kept_from_lem four (extend p w) ws (regular-extend p.phase p.clock p.pairs w r) in
    (rw (← met-is p.phase p.clock p.pairs w r, ← stamps-is four p.phase p.clock p.pairs w r) rest.0, rest.1)

pub enough : Enough
enough =
    record {
      breach = λ t ws w.
          let h = kept_from_lem t.four nothing ws (omega arith, tt) in
          let p = past_from nothing ws in
          ap (λ k. word_breach t k.stamps k.clock k.met w) h.0 ∙ sym (breach-is t p.phase p.clock p.pairs w h.1);
      meets = λ four ws. ap (λ k. k.met) (kept_from_lem four nothing ws (omega arith, tt)).0;
    }
