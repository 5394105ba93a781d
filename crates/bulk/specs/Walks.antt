-- A walk that is advanced until it does not pass.
use Rattle.std.specs.Prelude.{ℕ, zero, suc, ◌+◌, Bool, true, false, cond, List, length}
use Rattle.basics.specs.Outcome.{Outcome, value, refused}
use Rattle.config.specs.declared.Config.{Config}
use Rattle.checker.specs.Steps.{fresh}
use Rattle.checker.specs.declared.checker.Checker.{Checker}
use Rattle.walks.specs.Walk.{Reached, passed, breached, ended, Move, staying, move_of}

-- the word passed
abbrev pub is_pass : Outcome Reached → Bool
is_pass (value passed) = true
is_pass (value (breached k n)) = false
is_pass (value ended) = false
is_pass (refused n) = false

-- at most n advances, ending at the first that does not pass: its answer, and the state that it leaves
abbrev pub walk_from : ℕ → Checker → List ℕ → Move
walk_from zero s ws = staying s (value passed)
walk_from (suc n) s ws = let rest = walk_from n (move_of s ws).after ws in cond (is_pass (move_of s ws).outcome) rest (move_of s ws)

-- a fresh walk, advanced at the latest once after its last word
abbrev pub walk_of : Config → List ℕ → Move
walk_of c ws = walk_from (length ws + 1) (fresh c) ws

-- the answer of one advance more
abbrev pub again_of : Config → List ℕ → Outcome Reached
again_of c ws = (move_of (walk_of c ws).after ws).outcome
