-- A tally's contract is an equation of the counts, refused or not.
use Prim.Native.Nat.{ℕ}
use mathlib.Core.Path.{◌≡◌, refl, sym, ◌∙◌, ap}
use mathlib.Core.Bool.{Bool, true, false}
use mathlib.Core.List.{List, [], ◌∷◌}
use native.Mathlib.Omega.{arith}
use lib.ListN.{length}
use lib.Dec.{leb}
use Rattle.basics.specs.Outcome.{Outcome, value, refused, require}
use Rattle.config.specs.Configuration.{derived, timing_of}
use Rattle.config.specs.declared.Config.{Config}
use Rattle.config.specs.declared.Timing.{Timing}
use Rattle.config.proofs.Accepted.{accepted, timing-is, config-below}
use Rattle.counts.specs.Counts.{counts_of, no_counts, counting, counting_outcome}
use Rattle.counts.specs.declared.CommandCounts.{CommandCounts}
use Rattle.counts.specs.declared.Uncounted.{Uncounted}
use Rattle.std.specs.Prelude.{Result, Ok, Err}
use Rattle.excluded.specs.Excluded.{NoTally, Tallies}
use Rattle.excluded.proofs.Answers.{same-counting}

no_tally : (s : Config) (ws : List ℕ) (a : Result CommandCounts Uncounted)
    → (counting_outcome a ≡ counting (value (counts_of (derived s) ws)) → ⊥)
    → ((n : ℕ) → (0 ≡ n → ⊥) → counting_outcome a ≡ counting (refused n) → ⊥) → NoTally s ws a
no_tally s ws a counts refuses = by-config (timing_of s) refl
  where
    by_length : (b : Bool) → counting_outcome a ≡ counting (require b 30 (value (counts_of (derived s) ws))) → ⊥
    by_length true = counts
    by_length false = refuses 30 (λ e. omega arith)

    by-config : (x : Outcome Timing) → timing_of s ≡ x → NoTally s ws a
    by-config (value t) e = rw (timing-is s (accepted s t e).0) (by_length (leb (length ws) 65536))
    by-config (refused n) e = rw e (refuses n (λ z. config-below s 0 (omega arith) (e ∙ ap refused (sym z))))

invented : (s : Config) (ws : List ℕ) (c : CommandCounts) (count : CommandCounts → ℕ) → (count c ≡ count (counts_of (derived s) ws) → ⊥)
    → NoTally s ws (Ok c)
invented s ws c count h =
    no_tally s ws (Ok c) (λ e. h (ap (λ k. count k.counts) e)) (λ n positive e. positive (ap (λ k. k.number) e))

pub tallies : Tallies
tallies =
    record {
      invented = invented;
      invented-refused =
          λ s ws why c count h.
          no_tally s ws (Err (record { why = why; counts = c }))
          (λ e. let same = same-counting (Err (record { why = why; counts = c })) (Ok (counts_of (derived s) ws)) e in
          let z : ◌≡◌ {A = ℕ} 0 1 = cc same in
          omega arith)
          (λ n positive e. h (ap (λ k. count k.counts) e));
      read-not-counted = λ s. invented s (0xA0000 ∷ 0xC0000 ∷ []) no_counts (λ k. k.reads) (λ e. let z : 0 ≡ 1 = e in omega arith);
      low-word-opens = λ s c one. invented s (0 ∷ 0 ∷ []) c (λ k. k.refreshes) (λ e. let z : 1 ≡ 0 = sym one ∙ e in omega arith);
    }
