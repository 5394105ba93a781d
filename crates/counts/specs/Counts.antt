-- The counts of a trace (RULES 9.1), the paper's tally: words and pairs are told apart as for the rules (RULES 2.2, 2.8), and nothing
-- is judged.
use Rattle.std.specs.Prelude.{ℕ, ◌+◌, Bool, not, ◌||◌, Result, Ok, Err, List, [], ◌∷◌, length, leb}
use Rattle.basics.specs.Outcome.{Outcome, value, refused, require, given}
use Rattle.basics.specs.Numbers.{refusal_number}
use Rattle.basics.specs.declared.refusal.Refusal.{Refusal}
use Rattle.config.specs.Configuration.{timing_of}
use Rattle.config.specs.declared.Config.{Config}
use Rattle.config.specs.declared.Timing.{Timing}
use Rattle.command.specs.Pins.{high, level}
use Rattle.command.specs.Pairs.{selected}
use Rattle.reading.specs.Reading.{operation_of, burst_of}
use Rattle.rules.specs.History.{ClosedPair, Phase, pair, between, Past, nothing, extend, past_from}
use Rattle.rules.specs.Rules.{was_read, was_write, was_mode, was_refresh}
use Rattle.counts.specs.declared.CommandCounts.{CommandCounts}
use Rattle.counts.specs.declared.Uncounted.{Uncounted}

-- how many closed pairs have a property
abbrev pub how_many : (ClosedPair → Bool) → List ClosedPair → ℕ
how_many f [] = 0
how_many f (p ∷ ps) = level (f p) + how_many f ps

-- 1 for DESL, which is CS high where no pair is open (RULES 2.2); a word with PD low counts as one there, whatever its CS (RULES 2.8)
abbrev pub desl_at : Phase → ℕ → ℕ
desl_at (pair first) w = 0
desl_at (between r) w = level (not (high 19 w) || not (selected w))

-- the DESL words after a past
abbrev pub desls_from : Past → List ℕ → ℕ
desls_from p [] = 0
desls_from p (w ∷ ws) = desl_at p.phase w + desls_from (extend p w) ws

-- the clocks of data of closed pairs (RULES 9.1): the data lengths, added up, of each the one that its reading gives, which is 0 for all
-- but reads and writes (RULES 3.6)
abbrev pub data_clocks : Timing → List ClosedPair → ℕ
data_clocks t [] = 0
data_clocks t (p ∷ ps) = burst_of t (operation_of t p.first p.second) + data_clocks t ps

-- the six counts, on a sheet
abbrev pub counts_of : Timing → List ℕ → CommandCounts
counts_of t words =
    let pairs = (past_from nothing words).pairs in
    record {
      reads = how_many was_read pairs;
      writes = how_many was_write pairs;
      modes = how_many was_mode pairs;
      refreshes = how_many was_refresh pairs;
      desls = desls_from nothing words;
      clocks = record { 0 = data_clocks t pairs };
    }

-- the counts of a refused call: all are 0 (RULES 7.2)
abbrev pub no_counts : CommandCounts
no_counts = record { reads = 0; writes = 0; modes = 0; refreshes = 0; desls = 0; clocks = record { 0 = 0 } }

-- what a refused call answers: why, and no counts (RULES 7.2)
abbrev pub uncounted : Refusal → Uncounted
uncounted r = record { why = r; counts = no_counts }

-- an answer in the paper's terms: 0 or the refusal's number, and the counts
pub record Counting : Type 0 where
  pub number : ℕ
  pub counts : CommandCounts

-- the answer of `count_commands`
abbrev pub counting_outcome : Result CommandCounts Uncounted → Counting
counting_outcome (Ok c) = record { number = 0; counts = c }
counting_outcome (Err u) = record { number = refusal_number u.why; counts = u.counts }

-- these counts, or a refusal with counts that are all 0 (RULES 7.2)
abbrev pub counting : Outcome CommandCounts → Counting
counting (value c) = record { number = 0; counts = c }
counting (refused n) = record { number = n; counts = no_counts }

-- the counts of at most 65,536 words; or the sheet's refusals, then 30, and counts that are all 0 (RULES 6.30, 7.2)
abbrev pub counting_of : Config → List ℕ → Counting
counting_of s words = counting (given (timing_of s) (λ t. require (leb (length words) 65536) 30 (value (counts_of t words))))
