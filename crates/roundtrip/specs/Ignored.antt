-- Which pins each word of a pair is read by, and the pair with every other pin low (RULES 2.7).
use Rattle.std.specs.Prelude.{ℕ, ◌+◌, Bool, true, false, cond, List, [], ◌∷◌, ◌++◌, eqb}
use Rattle.config.specs.declared.Config.{Config}
use Rattle.command.specs.Pins.{pins, put}
use Rattle.command.specs.Pairs.{rda, lal}
use Rattle.command.specs.declared.operation.Pair.{Pair}

-- pins in a row: the first, and how many
pub record Pins : Type 0 where
  pub from : ℕ
  pub count : ℕ

-- so many pins, the first of them n
abbrev pub row : ℕ → ℕ → Pins
row n width = record { from = n; count = width }

-- the word with these pins as they are, and all others low
abbrev pub only : List Pins → ℕ → ℕ
only [] w = 0
only (p ∷ ps) w = put p.from p.count (pins p.from p.count w) + only ps w

-- CS and PD count in every word
abbrev pub always : List Pins
always = row 18 1 ∷ row 19 1 ∷ []

-- of the first word FN counts, and where a LAL follows also bank and row; in a mode and a refresh they are ignored (RULES 2.3)
abbrev pub first_pins : Bool → List Pins
first_pins true = row 0 14 ∷ row 14 3 ∷ row 17 1 ∷ always
first_pins false = row 17 1 ∷ always

-- how many pins carry the column: eight by 16, nine by 8 (RULES 2.4)
abbrev pub column_width : Config → ℕ
column_width c = cond (eqb c.organisation 16) 8 9

-- a lane's VW0, and at BL 4 its VW1 (RULES 2.5)
abbrev pub lane_pins : Config → ℕ → ℕ → List Pins
lane_pins c vw0 vw1 = row vw0 1 ∷ cond (eqb c.bl 4) (row vw1 1 ∷ []) []

-- a write's lanes: the lower, and by 16 the upper
abbrev pub write_pins : Config → List Pins
write_pins c = lane_pins c 16 13 ++ cond (eqb c.organisation 16) (lane_pins c 12 11) []

-- the second word, by RDA and LAL: a read's, a write's, a mode's and a refresh's
abbrev pub second_pins : Bool → Bool → Config → List Pins
second_pins true true c = row 0 (column_width c) ∷ always
second_pins false true c = row 0 (column_width c) ∷ write_pins c ++ always
second_pins true false c = row 0 14 ∷ row 14 3 ∷ always
second_pins false false c = always

-- the pair with every ignored pin low (RULES 3.5)
abbrev pub ignored_low : Config → Pair → Pair
ignored_low c p =
    record {
      first = only (first_pins (lal p.second)) p.first;
      second = only (second_pins (rda p.first) (lal p.second) c) p.second;
    }
