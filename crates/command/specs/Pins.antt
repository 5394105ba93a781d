-- The pins of a word by their bits (RULES 2.1): A0 to A13 from 0 on, BA0 to BA2 from 14 on, FN 17, CS 18, PD 19. A high pin is a 1.
use Rattle.std.specs.Prelude.{ℕ, ◌/◌, ◌%◌, ◌*◌, ◌^◌, Bool, true, false, not, ◌&&◌, eqb, leb}

-- the number on `width` pins of the word w, from pin n on
abbrev pub pins : ℕ → ℕ → ℕ → ℕ
pins n width w = w / 2 ^ n % 2 ^ width

-- pin n is high
abbrev pub high : ℕ → ℕ → Bool
high n w = eqb (pins n 1 w) 1

-- the pin of a weight, 2 ^ n, is high: the code names pins so; there is no pin of weight 0
abbrev pub high_by : ℕ → ℕ → Bool
high_by pin w = not (eqb pin 0) && eqb (w / pin % 2) 1

-- a word's part with the number v on `width` pins, from pin n on
abbrev pub put : ℕ → ℕ → ℕ → ℕ
put n width v = v % 2 ^ width * 2 ^ n

-- a level as a number
abbrev pub level : Bool → ℕ
level true = 1
level false = 0

-- a word's part with pin n at a level
abbrev pub drive : ℕ → Bool → ℕ
drive n b = level b * 2 ^ n

-- a bit above PD is set: rule 1 (RULES 4.1)
abbrev pub stray_bit : ℕ → Bool
stray_bit w = leb (2 ^ 20) w
