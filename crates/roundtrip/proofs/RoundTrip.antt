-- Reading and writing are each other's inverse: an accepted configuration has one of two burst lengths and one of three latencies, for
-- which WrittenBack and ReadBack have the two halves, and IgnoredPins that a refused pair stays one.
use mathlib.Core.Path.{◌≡◌, refl, sym, subst, ◌∙◌}
use mathlib.Core.Bool.{Bool, true, false, ◌||◌}
use Rattle.basics.specs.Outcome.{Outcome, value, refused, require}
use Rattle.config.specs.Configuration.{derived, timing_of}
use Rattle.config.specs.declared.Config.{Config}
use Rattle.config.specs.declared.Timing.{Timing}
use Rattle.basics.proofs.Outcomes.{require-value}
use Rattle.config.proofs.Bounds.{cl_bounds, bl-cases}
use Rattle.config.proofs.Accepted.{Accepted, accepted, behind, timing-is}
use Rattle.command.specs.Pins.{stray_bit}
use Rattle.reading.specs.Reading.{sound_pair, operation_of, decoded_of, read_pair}
use Rattle.reading.specs.declared.Decoded.{Decoded}
use Rattle.writing.specs.Writing.{operation_fits, pair_of, write_pair}
use Rattle.roundtrip.specs.Ignored.{ignored_low}
use Rattle.roundtrip.specs.RoundTrip.{RoundTrip}
use Rattle.command.specs.declared.operation.Operation.{Operation}
use Rattle.command.specs.declared.operation.Pair.{Pair}
use Rattle.roundtrip.proofs.WrittenBack.{written_back}
use Rattle.roundtrip.proofs.ReadBack.{back, sound}
use Rattle.roundtrip.proofs.IgnoredPins.{ignored-low}

written : (c : Config) (o : Operation) (p : Pair) → write_pair c o ≡ value p → read_pair c p ≡ value (decoded_of (derived c) o)
written c o p e =
    let t = derived c in
    let h = behind c (λ t. require (operation_fits t o) 26 (value (pair_of t o))) e in
    let r = require-value (operation_fits t o) 26 (value (pair_of t o)) h.1 in
    let w = written_back t (bl-cases c h.0.part) (cl_bounds c h.0.part) o r.0 in
    let is : pair_of t o ≡ p = cc r.1 in
    subst (λ p. read_pair c p ≡ value (decoded_of t o)) is (rw (timing-is c h.0, w.0, w.1))

read : (c : Config) (p : Pair) (d : Decoded) → read_pair c p ≡ value d → write_pair c d.operation ≡ value (ignored_low c p)
read c p d e =
    let t = derived c in
    let read-on : Timing → Decoded = λ t. decoded_of t (operation_of t p.first p.second) in
    let h = behind c (λ t. require (sound_pair t p.first p.second) 28 (value (read-on t))) e in
    let r = require-value (sound_pair t p.first p.second) 28 (value (read-on t)) h.1 in
    let w = back c (bl-cases c h.0.part) p.first p.second (sound t p.first p.second r.0) in
    let is : read-on t ≡ d = cc r.1 in
    subst (λ d. write_pair c d.operation ≡ value (ignored_low c p)) is (rw (timing-is c h.0, w.0, w.1))

-- a sound pair by the two halves; one that is not sound, is not with its ignored pins low
ignored : (c : Config) (p : Pair) → (stray_bit p.first || stray_bit p.second) ≡ false → read_pair c p ≡ read_pair c (ignored_low c p)
ignored c p stray = by-config (timing_of c) refl
  where
    by_test : Accepted c → (b : Bool) → sound_pair (derived c) p.first p.second ≡ b → read_pair c p ≡ read_pair c (ignored_low c p)
    by_test a true e =
        let r : read_pair c p ≡ value (decoded_of (derived c) (operation_of (derived c) p.first p.second)) = rw (timing-is c a, e) in
        r ∙ sym (written c _ _ (read c p _ r))
    by_test a false e = rw (timing-is c a, ignored-low c (bl-cases c a.part) p.first p.second stray, e)

    by-config : (x : Outcome Timing) → timing_of c ≡ x → read_pair c p ≡ read_pair c (ignored_low c p)
    by-config (value t) e = by_test (accepted c t e).0 (sound_pair (derived c) p.first p.second) refl
    by-config (refused n) e = rw e

pub round_trip : RoundTrip
round_trip = record { written-reads-back = written; read-writes-back = read; ignored_when_read = ignored }
