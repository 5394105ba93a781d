-- What two words stand for (RULES 2.3 to 2.6, 3.1), when its data come (RULES 3.6), and when the words are no sound pair (RULES 3.4).
use Rattle.std.specs.Prelude.{ℕ, ◌/◌, Bool, true, false, cond, not, ◌&&◌, ◌||◌, eqb}
use Rattle.basics.specs.Outcome.{Outcome, value, require, given}
use Rattle.config.specs.Configuration.{timing_of}
use Rattle.config.specs.declared.Config.{Config}
use Rattle.config.specs.declared.Timing.{Timing}
use Rattle.command.specs.Pins.{pins, high, stray_bit}
use Rattle.command.specs.Address.{bank_of, row_of}
use Rattle.command.specs.Pairs.{selected, rda, lal, is_write, is_mode}
use Rattle.command.specs.declared.operation.Request.{Request}
use Rattle.command.specs.declared.operation.Operation.{Operation}
use Rattle.command.specs.declared.operation.Operation.TheVariants.{Access, Regular, Extended, Refresh}
use Rattle.command.specs.declared.operation.Pair.{Pair}
use Rattle.reading.specs.declared.Decoded.{Decoded}

-- the column on a LAL: A0 to A7 by 16, and A8 too by 8 (RULES 2.4)
abbrev pub column_of : Timing → ℕ → ℕ
column_of t second = cond (eqb t.organisation 16) (pins 0 8 second) (pins 0 9 second)

-- the words that VW0 and VW1 write (RULES 2.5), first at BL 2, where VW1 is ignored, then at BL 4, where both low is reserved and stands
-- here as 0
abbrev pub lane_by : Bool → Bool → Bool → ℕ
lane_by true false vw1 = 2
lane_by true true vw1 = 1
lane_by false true false = 4
lane_by false false true = 2
lane_by false true true = 1
lane_by false false false = 0

-- how many words a lane of a write writes, by its two pins and the BL of a sheet (RULES 2.5)
abbrev pub lane_of : Timing → Bool → Bool → ℕ
lane_of t vw0 vw1 = lane_by (eqb t.bl 2) vw0 vw1

-- the request of a read or a write (RULES 2.3 to 2.5, 3.2): a write's lower lane is on BA2 and A13, by 16 its upper on A12 and A11; a
-- read has 0 in both
abbrev pub access_of : Timing → Bool → ℕ → ℕ → Request
access_of t write first second =
    record {
      write = write;
      bank = bank_of t.four first;
      row = row_of t.four first;
      column = column_of t second;
      lower = cond write (lane_of t (high 16 second) (high 13 second)) 0;
      upper = cond (write && eqb t.organisation 16) (lane_of t (high 12 second) (high 11 second)) 0;
    }

-- the mode of an MRS, by BA0: regular with A3 if low, extended with A1 to A6 if high (RULES 2.6, 3.1)
abbrev pub mode_by : Bool → ℕ → Operation
mode_by false second = Regular (high 3 second)
mode_by true second = Extended (pins 1 6 second)

-- the operation that two words stand for (RULES 3.1), where the first opens a pair
abbrev pub operation_of : Timing → ℕ → ℕ → Operation
operation_of t first second =
    cond (lal second) (Access (access_of t (not (rda first)) first second))
    (cond (rda first) (mode_by (high 14 second) second) Refresh)

-- the clocks from LAL to the first data: CL for a read, WL for a write, 0 for the others (RULES 3.6)
abbrev pub latency_of : Timing → Operation → ℕ
latency_of t (Access r) = cond r.write t.wl t.cl
latency_of t (Regular a3) = 0
latency_of t (Extended v) = 0
latency_of t Refresh = 0

-- the data length in clocks: BL / 2 for a read or write, 0 for the others (RULES 3.6)
abbrev pub burst_of : Timing → Operation → ℕ
burst_of t (Access r) = t.bl / 2
burst_of t (Regular a3) = 0
burst_of t (Extended v) = 0
burst_of t Refresh = 0

-- an operation with the clocks of its data (RULES 3.6)
abbrev pub decoded_of : Timing → Operation → Decoded
decoded_of t o = record { operation = o; latency = record { 0 = latency_of t o }; burst = record { 0 = burst_of t o } }

-- the fields of a register, by BA0 (RULES 2.6): regular, if A0 to A2 are the code of the sheet's BL, which is half of it, and A4 to A6
-- its CL; extended, if A0 is low
abbrev pub register_fits : Bool → Timing → ℕ → Bool
register_fits false t second = eqb (pins 0 3 second) (t.bl / 2) && eqb (pins 4 3 second) t.cl
register_fits true t second = not (high 0 second)

-- the fields of an MRS: BA1, BA2 and A7 to A13 low, and those of its register (RULES 2.6)
abbrev pub mode_fits : Timing → ℕ → Bool
mode_fits t second = eqb (pins 15 2 second) 0 && eqb (pins 7 7 second) 0 && register_fits (high 14 second) t second

-- BL is 4, and both pins of a lane are low: of the lower, or by 16 of the upper (RULES 2.5)
abbrev pub reserved : Timing → ℕ → Bool
reserved t second =
    eqb t.bl 4
    && (not (high 16 second) && not (high 13 second)
    || eqb t.organisation 16 && (not (high 12 second) && not (high 11 second)))

-- rule 4 (RULES 4.4): the pair is a mode, and its MRS has a wrong field
abbrev pub mode_wrong : Timing → ℕ → ℕ → Bool
mode_wrong t first second = is_mode first second && not (mode_fits t second)

-- rule 5 (RULES 4.5): the pair is a write, and its LAL has a reserved lane
abbrev pub lane_reserved : Timing → ℕ → ℕ → Bool
lane_reserved t first second = is_write first second && reserved t second

-- the first word opens a pair, and the two words breach none of rules 1, 2, 4 and 5 (RULES 3.4)
abbrev pub sound_pair : Timing → ℕ → ℕ → Bool
sound_pair t first second =
    selected first
    && not (stray_bit first || stray_bit second)
    && (high 19 first && high 19 second)
    && not (mode_wrong t first second)
    && not (lane_reserved t first second)

-- reading a pair: the operation with the clocks of its data; or the sheet's refusals, then 28 (RULES 3.4)
abbrev pub read_pair : Config → Pair → Outcome Decoded
read_pair c p =
    given (timing_of c)
    (λ t. require (sound_pair t p.first p.second) 28 (value (decoded_of t (operation_of t p.first p.second))))
