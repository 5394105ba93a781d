-- Reading and writing are each other's inverse, and no ignored pin changes what is read, over all configurations (RULES 2.7, 3.5).
use Rattle.std.specs.Prelude.{◌≡◌, false, ◌||◌}
use Rattle.basics.specs.Outcome.{value}
use Rattle.config.specs.Configuration.{derived}
use Rattle.config.specs.declared.Config.{Config}
use Rattle.command.specs.Pins.{stray_bit}
use Rattle.reading.specs.Reading.{decoded_of, read_pair}
use Rattle.reading.specs.declared.Decoded.{Decoded}
use Rattle.writing.specs.Writing.{write_pair}
use Rattle.roundtrip.specs.Ignored.{ignored_low}
use Rattle.command.specs.declared.operation.Operation.{Operation}
use Rattle.command.specs.declared.operation.Pair.{Pair}

-- the theorem, on any sheet
pub record RoundTrip : Type 0 where
  -- an operation that is written reads back to itself, with the clocks of its data
  pub written-reads-back : (c : Config) (o : Operation) (p : Pair) → write_pair c o ≡ value p
      → read_pair c p ≡ value (decoded_of (derived c) o)
  -- a pair that reads as an operation is written back as the same pair with every ignored pin low
  pub read-writes-back : (c : Config) (p : Pair) (d : Decoded) → read_pair c p ≡ value d
      → write_pair c d.operation ≡ value (ignored_low c p)
  -- a pair with no bit above 19 is read, or refused, as the same pair with every ignored pin low
  pub ignored_when_read : (c : Config) (p : Pair) → (stray_bit p.first || stray_bit p.second) ≡ false
      → read_pair c p ≡ read_pair c (ignored_low c p)
