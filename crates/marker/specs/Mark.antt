-- The marker program's line (RULES 11.1).
use Rattle.std.specs.Prelude.{ℕ, ◌/◌, List, [], ◌∷◌, ◌++◌, length, leb}
use Rattle.line.specs.Text.{decimal}
use Rattle.basics.specs.Outcome.{Outcome, value, refused, require}
use Rattle.config.specs.Configuration.{institute}
use Rattle.rules.specs.Verdict.{Judgement, accepted, breach, check_bytes_of}

-- the verdict on sheet E: 25 for more than 65,536 bytes, then 29 for no multiple of four (RULES 7.1)
abbrev pub mark_of : List ℕ → Outcome Judgement
mark_of bytes = require (leb (length bytes) 65536) 25 (check_bytes_of institute bytes)

-- `accepted` and a blank
abbrev pub accepted_text : List ℕ
accepted_text = 97 ∷ 99 ∷ 99 ∷ 101 ∷ 112 ∷ 116 ∷ 101 ∷ 100 ∷ 32 ∷ []

-- `breach` and a blank
abbrev pub breach_text : List ℕ
breach_text = 98 ∷ 114 ∷ 101 ∷ 97 ∷ 99 ∷ 104 ∷ 32 ∷ []

-- `refused` and a blank
abbrev pub refused_text : List ℕ
refused_text = 114 ∷ 101 ∷ 102 ∷ 117 ∷ 115 ∷ 101 ∷ 100 ∷ 32 ∷ []

-- the line with its line feed, given the count of words
abbrev pub line_by : ℕ → Outcome Judgement → List ℕ
line_by count (value accepted) = accepted_text ++ decimal count ++ (10 ∷ [])
line_by count (value (breach clock n)) = breach_text ++ decimal clock ++ (32 ∷ []) ++ decimal n ++ (10 ∷ [])
line_by count (refused n) = refused_text ++ decimal n ++ (10 ∷ [])

-- the line for the bytes that were read
abbrev pub line_of : List ℕ → List ℕ
line_of bytes = line_by (length bytes / 4) (mark_of bytes)
