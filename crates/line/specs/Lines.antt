-- A line with room for 40 bytes, and the same line with more at its end.
use Rattle.std.specs.Prelude.{ℕ, ◌+◌, cond, List, [], ◌∷◌, set, replicate, ltb}
use Rattle.line.specs.declared.Line.{Line}

-- a line without text
abbrev pub empty_line : Line
empty_line = record { bytes = replicate 40 0; len = 0 }

-- a line with one byte more, or the same line where it is full: its length is 40 or more
abbrev pub pushed : Line → ℕ → Line
pushed l b = cond (ltb l.len 40) (record { bytes = set l.bytes l.len b; len = l.len + 1 }) l

-- a line with these bytes more, one after the other
abbrev pub appended : Line → List ℕ → Line
appended l [] = l
appended l (b ∷ bs) = appended (pushed l b) bs
