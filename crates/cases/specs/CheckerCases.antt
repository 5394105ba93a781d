-- The figures of sheet E, and cases b to h of the paper's section "Clocks on either edge, sheet E", as rows of one table. Cases puts case a
-- before them, and computes all.
use Rattle.std.specs.Prelude.{ℕ, ◌+◌, ◌*◌, Bool, true, ◌&&◌, List, [], ◌∷◌, ◌++◌, eqb}
use Rattle.basics.specs.Outcome.{Outcome, value, refused}
use Rattle.config.specs.Configuration.{institute, derived, timing_of, wired_of}
use Rattle.writing.specs.Writing.{write_pair}
use Rattle.command.specs.declared.operation.Operation.TheVariants.{Access}
use Rattle.command.specs.declared.operation.Pair.{Pair}
use Rattle.rules.specs.Verdict.{Judgement, accepted, breach, check_of}
use Rattle.model.specs.Traces.{At, words, start_up_pairs, read_at, write_at, mode_at, refresh_at, bank1}

-- an outcome as one number: 0 for accepted, the refusal's number, or the breach's clock and, in the last two digits, its number
abbrev pub number : Outcome Judgement → ℕ
number (value accepted) = 0
number (value (breach k n)) = k * 100 + n
number (refused n) = n

-- the verdict on the start-up, these pairs, and DESL behind them
abbrev pub verdict_on : List At → ℕ → ℕ
verdict_on ps more = number (check_of institute (words 0 (start_up_pairs ++ ps) more))

-- the number of a refusal, or 0
abbrev pub refusal : {A : Type 0} → Outcome A → ℕ
refusal (value a) = 0
refusal (refused n) = n

-- what a case comes to, and what it should come to by the papers
pub record Row : Type 0 where
  pub found : ℕ
  pub expected : ℕ

-- a row with both
abbrev pub row : ℕ → ℕ → Row
row a b = record { found = a; expected = b }

-- the second word of a written pair
abbrev pub lal_of : Outcome Pair → ℕ
lal_of (value p) = p.second
lal_of (refused n) = 0

-- the figures of sheet E, and cases b to h
abbrev pub checker_cases : List Row
checker_cases =
    -- the figures of sheet E (RULES 1.3)
    row (derived institute).rc 5
    ∷ row (derived institute).refi 780
    ∷ row (derived institute).window 641
    ∷ row (derived institute).spacing 5
    -- b (RULES 4.7): reads of one bank, RC apart and one clock less
    ∷ row (verdict_on (read_at 201 0 ∷ read_at 206 0 ∷ []) 0) 0
    ∷ row (verdict_on (read_at 201 0 ∷ read_at 205 0 ∷ []) 0) 20607
    -- c (RULES 4.8): after a read a write of another bank, RWD behind the LAL and one clock less
    ∷ row (verdict_on (read_at 201 0 ∷ write_at 205 bank1 ∷ []) 0) 0
    ∷ row (verdict_on (read_at 201 0 ∷ write_at 204 bank1 ∷ []) 0) 20508
    -- d (RULES 4.8): after a write a read of another bank, WRD behind the LAL
    ∷ row (verdict_on (write_at 201 0 ∷ read_at 203 bank1 ∷ []) 0) 0
    -- e (RULES 4.3): the REF after that at 33, D later; then none, up to 2 × D after the one at 15 and one clock more
    ∷ row (verdict_on (refresh_at 812 ∷ []) 0) 0
    ∷ row (verdict_on [] 1542) 0
    ∷ row (verdict_on [] 1543) 157603
    -- f (RULES 4.11): after a read a mode, CL + BL / 2 behind the LAL and one clock less
    ∷ row (verdict_on (read_at 201 0 ∷ mode_at 208 ∷ []) 0) 0
    ∷ row (verdict_on (read_at 201 0 ∷ mode_at 207 ∷ []) 0) 20811
    -- g (RULES 2.7): the LAL of a write of column 0 with four words in each lane
    ∷ row (lal_of (write_pair institute (Access (record { write = true; bank = 0; row = 0; column = 0; lower = 4; upper = 4 })))) 0xD1000
    -- h (RULES 1.2): the least period of grade 37 at CL 4, and one picosecond less
    ∷ row (refusal (timing_of (wired_of 37 4 4 16 4500 2 3 1 7 18 8))) 0
    ∷ row (refusal (timing_of (wired_of 37 4 4 16 4499 2 3 1 7 18 8))) 21
    ∷ []

-- in every row what is found is what is expected
abbrev pub agree : List Row → Bool
agree [] = true
agree (r ∷ rs) = eqb r.found r.expected && agree rs
