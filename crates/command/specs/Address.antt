-- Bank and row on the first word of a read or a write (RULES 2.3), with four banks (true), where BA2 carries bit 14 of the row, or eight.
use Rattle.std.specs.Prelude.{ℕ, ◌+◌, ◌*◌, ◌/◌, ◌^◌, Bool, true, false, ◌&&◌, leb}
use Rattle.command.specs.Pins.{pins, put}

-- the bank: BA0 and BA1, with eight banks also BA2
abbrev pub bank_of : Bool → ℕ → ℕ
bank_of true first = pins 14 2 first
bank_of false first = pins 14 3 first

-- the row: A0 to A13, with four banks also BA2, above them
abbrev pub row_of : Bool → ℕ → ℕ
row_of true first = pins 16 1 first * 2 ^ 14 + pins 0 14 first
row_of false first = pins 0 14 first

-- bank and row are in range (RULES 3.2)
abbrev pub address_fits : Bool → ℕ → ℕ → Bool
address_fits true bank row = leb bank 3 && leb row 32767
address_fits false bank row = leb bank 7 && leb row 16383

-- a first word's part with bank and row
abbrev pub address_at : Bool → ℕ → ℕ → ℕ
address_at true bank row = put 14 2 bank + put 16 1 (row / 2 ^ 14) + put 0 14 row
address_at false bank row = put 14 3 bank + put 0 14 row
