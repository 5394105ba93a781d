-- The theorem of specs/Relaxed: the timing of the second sheet is no stricter to any rule, so the first is a witness for each. A trace that
-- steps or a walk accept is one that the whole check takes.
use Prim.Native.Nat.{ℕ, ◌+◌, ◌/◌, ◌%◌, ◌≤◌, ◌<◌}
use mathlib.Core.Path.{◌≡◌, refl, sym, ◌∙◌, ap}
use mathlib.Core.List.{List}
use native.Mathlib.Omega.{arith}
use native.Mathlib.Nat.{le_of_eq}
use lib.ListN.{length}
use lib.Dec.{eqb, leb}
use Rattle.basics.specs.Outcome.{value}
use Rattle.config.specs.Configuration.{derived}
use Rattle.config.specs.declared.Config.{Config}
use Rattle.config.specs.declared.Timing.{Timing}
use Rattle.words.specs.Words.{words_of}
use Rattle.rules.specs.Verdict.{accepted, judge, check_of, check_bytes_of}
use Rattle.checker.specs.Steps.{fresh}
use Rattle.checker.specs.Refinement.{stepping}
use Rattle.walks.specs.Walk.{ended, walking, stop_of}
use Rattle.basics.proofs.Outcomes.{require-value}
use Rattle.config.proofs.Accepted.{behind}
use Rattle.checker.proofs.Refinement.{refinement}
use Rattle.walks.proofs.Walk.{walk}
use Rattle.relaxed.specs.Relaxed.{Relaxed, StillAccepted}
use Rattle.relaxed.proofs.Rows.{passes}
use Rattle.relaxed.proofs.Lengths.{step-limit, walk-limit, stop-accepted}

module _ (a b : Config) (r : Relaxed a b) where
  abbrev s : Timing
  s = derived a

  abbrev t : Timing
  t = derived b

  -- the first is the witness for each rule: D and W follow from the period
  judged : (words : List ℕ) → judge s words ≡ accepted → judge t words ≡ accepted
  judged words e =
      passes a b r.cl r.bl r.organisation r.wiring r.rbd r.rwd r.wrd r.rsc r.refc
      (le_of_eq (ap (λ n. 3900000 / n) (sym r.period)))
      s
      (le_of_eq (ap (λ n. 3200000 / n + 1) r.period))
      words e e

  check : (words : List ℕ) → check_of a words ≡ value accepted → check_of b words ≡ value accepted
  check words e =
      let h = require-value (leb (length words) 16777216) _ _ (behind a _ e).1 in
      rw (r.second-accepted, h.0) (ap value (judged words (cc h.1)))

  check-bytes : (bytes : List ℕ) → check_bytes_of a bytes ≡ value accepted → check_bytes_of b bytes ≡ value accepted
  check-bytes bytes e =
      let h = require-value (eqb (length bytes % 4) 0) _ _ (behind a _ e).1 in
      let k = require-value (leb (length bytes / 4) 16777216) _ _ h.1 in
      rw (r.second-accepted, h.0, k.0) (ap value (judged (words_of bytes) (cc k.1)))

  steps : (words : List ℕ) → stepping (fresh a) words ≡ value accepted → stepping (fresh b) words ≡ value accepted
  steps words e =
      let h = step-limit (fresh a) words (omega arith) e in
      let l : length words ≤ 16777216 = omega arith in
      let q = refinement.verdict a s words r.first-accepted l in
      refinement.verdict b t words r.second-accepted l ∙ ap value (judged words (cc (sym q ∙ e)))

  walks : (words : List ℕ) (n : ℕ) → walking n (fresh a) words ≡ value ended → walking n (fresh b) words ≡ value ended
  walks words n e =
      let (l, h) = walk-limit words n (fresh a) (omega arith) (omega arith) e in
      let m : length words < n = omega arith in
      let q = walk.verdict a s words n r.first-accepted l m in
      walk.verdict b t words n r.second-accepted l m
      ∙ ap (λ j. value (stop_of j)) (judged words (stop-accepted (judge s words) (cc (sym q ∙ e))))

pub still_accepted : StillAccepted
still_accepted =
    record {
      some =
          record {
            first-accepted = refl;
            second-accepted = refl;
            cl = refl;
            bl = refl;
            organisation = refl;
            period = refl;
            wiring = refl;
            rbd = omega arith;
            rwd = omega arith;
            wrd = omega arith;
            rsc = omega arith;
            refc = omega arith;
          };
      check = λ a b words r. check a b r words;
      check-bytes = λ a b bytes r. check-bytes a b r bytes;
      steps = λ a b words r. steps a b r words;
      walk = λ a b words n r. walks a b r words n;
    }
