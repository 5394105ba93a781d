-- When an operation is in range (RULES 3.2, 6.26), and the two words that it is written to (RULES 3.3), every other pin low (RULES 2.7).
use Rattle.std.specs.Prelude.{ℕ, ◌+◌, ◌/◌, ◌^◌, Bool, true, cond, not, ◌&&◌, ◌||◌, eqb, leb}
use Rattle.basics.specs.Outcome.{Outcome, value, require, given}
use Rattle.config.specs.Configuration.{timing_of}
use Rattle.config.specs.declared.Config.{Config}
use Rattle.config.specs.declared.Timing.{Timing}
use Rattle.command.specs.Pins.{put, drive}
use Rattle.command.specs.Address.{address_fits, address_at}
use Rattle.command.specs.declared.operation.Request.{Request}
use Rattle.command.specs.declared.operation.Operation.{Operation}
use Rattle.command.specs.declared.operation.Operation.TheVariants.{Access, Regular, Extended, Refresh}
use Rattle.command.specs.declared.operation.Pair.{Pair}

-- so many words in a lane of a write: 1 or 2, at BL 4 also 4 (RULES 3.2)
abbrev pub lane_fits : Timing → ℕ → Bool
lane_fits t n = eqb n 1 || eqb n 2 || eqb t.bl 4 && eqb n 4

-- both lanes of a request: of a write the lower, and the upper by 16, where by 8 it has 0; of a read 0 in both (RULES 3.2)
abbrev pub lanes_fit : Timing → Request → Bool
lanes_fit t r =
    r.write
    && lane_fits t r.lower
    && (eqb t.organisation 16 && lane_fits t r.upper || not (eqb t.organisation 16) && eqb r.upper 0)
    || not r.write && (eqb r.lower 0 && eqb r.upper 0)

-- each field of a request: bank and row, column, which by 8 has one pin more, and lanes (RULES 3.2)
abbrev pub request_fits : Timing → Request → Bool
request_fits t r =
    address_fits t.four r.bank r.row
    && (leb r.column 255 || not (eqb t.organisation 16) && leb r.column 511)
    && lanes_fit t r

-- each field of an operation: a request's, and the number of an extended mode, which has six pins (RULES 6.26)
abbrev pub operation_fits : Timing → Operation → Bool
operation_fits t (Access r) = request_fits t r
operation_fits t (Regular a3) = true
operation_fits t (Extended v) = leb v 63
operation_fits t Refresh = true

-- the pins of a lane with so many words (RULES 2.5): VW0 is low for two words alone; VW1 is high at BL 4 for two words and for one
abbrev pub lane_at : Timing → ℕ → ℕ → ℕ → ℕ
lane_at t vw0 vw1 n = drive vw0 (not (eqb n 2)) + drive vw1 (eqb t.bl 4 && not (eqb n 4))

-- the words of a request: RDA or WRA with bank and row; LAL with the column and a write's lanes (RULES 2.3 to 2.5)
abbrev pub access_pair : Timing → Request → Pair
access_pair t r =
    record {
      first = 2 ^ 19 + drive 17 (not r.write) + address_at t.four r.bank r.row;
      second =
          2 ^ 19
          + 2 ^ 18
          + put 0 9 r.column
          + cond r.write (lane_at t 16 13 r.lower) 0
          + cond (r.write && eqb t.organisation 16) (lane_at t 12 11 r.upper) 0;
    }

-- the words of an operation: a request's; RDA and MRS; WRA and REF. Bank and row pins of RDA and WRA are low where no LAL follows (RULES
-- 2.3, 2.6)
abbrev pub pair_of : Timing → Operation → Pair
pair_of t (Access r) = access_pair t r
pair_of t (Regular a3) = record { first = 2 ^ 19 + 2 ^ 17; second = 2 ^ 19 + put 4 3 t.cl + drive 3 a3 + put 0 3 (t.bl / 2) }
pair_of t (Extended v) = record { first = 2 ^ 19 + 2 ^ 17; second = 2 ^ 19 + 2 ^ 14 + put 1 6 v }
pair_of t Refresh = record { first = 2 ^ 19; second = 2 ^ 19 }

-- writing a pair: the two words; or the sheet's refusals, then 26 (RULES 3.3)
abbrev pub write_pair : Config → Operation → Outcome Pair
write_pair c o = given (timing_of c) (λ t. require (operation_fits t o) 26 (value (pair_of t o)))
