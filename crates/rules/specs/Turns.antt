-- A trace as turns (RULES 2.2): both words of a closed pair, or a single word. Whoever goes through a trace pair by pair goes by these.
use Rattle.std.specs.Prelude.{ℕ, ◌+◌, ◌≡◌, Bool, true, false, cond, ◌&&◌, List, [], ◌∷◌, ◌++◌, reverse, length}
use Rattle.config.specs.declared.Timing.{Timing}
use Rattle.command.specs.Pins.{high}
use Rattle.command.specs.Pairs.{selected}
use Rattle.command.specs.declared.operation.Request.{Request}
use Rattle.command.specs.declared.operation.Operation.{Operation}
use Rattle.command.specs.declared.operation.Operation.TheVariants.{Access, Regular, Extended, Refresh}
use Rattle.reading.specs.Reading.{operation_of}
use Rattle.rules.specs.History.{ClosedPair, Phase, pair, between, nothing, past_from}
use Rattle.rules.specs.Rules.{was_access}

-- a turn: a closed pair, or a single word at its clock, which is DESL, has PD low, or is the first of a pair that the trace does not close
pub data Turn : Type 0 where
  closed : ClosedPair → Turn
  single : ℕ → ℕ → Turn

-- a word opens a pair, where none is open: PD is high and CS low (RULES 2.2, 2.8)
abbrev pub opens_pair : ℕ → Bool
opens_pair w = high 19 w && selected w

-- the turns of words from a clock on, where no pair is open before the first
abbrev pub turns_from : ℕ → List ℕ → List Turn
turns_from k [] = []
turns_from k (w ∷ []) = single k w ∷ []
turns_from k (w ∷ v ∷ ws) =
    elim (opens_pair w) [
      | true ↦ closed (record { start = k; first = w; second = v }) ∷ turns_from (k + 2) ws
      | false ↦ single k w ∷ turns_from (k + 1) (v ∷ ws)
    ]

-- the turns of a trace
abbrev pub turns_of : List ℕ → List Turn
turns_of words = turns_from 0 words

-- the words of a turn, in order
abbrev pub words_in : Turn → List ℕ
words_in (closed p) = p.first ∷ p.second ∷ []
words_in (single k w) = w ∷ []

-- the words of turns, one turn behind the other
abbrev pub words_in_all : List Turn → List ℕ
words_in_all [] = []
words_in_all (x ∷ xs) = words_in x ++ words_in_all xs

-- the clock of a turn's first word
abbrev pub clock_of : Turn → ℕ
clock_of (closed p) = p.start
clock_of (single k w) = k

-- the pair that a turn closes, if it does
abbrev pub pair_closed : Turn → List ClosedPair
pair_closed (closed p) = p ∷ []
pair_closed (single k w) = []

-- the pairs that turns close, oldest first
abbrev pub pairs_in : List Turn → List ClosedPair
pairs_in [] = []
pairs_in (x ∷ xs) = pair_closed x ++ pairs_in xs

-- the closed pairs of a trace, newest first
abbrev pub pairs_of : List ℕ → List ClosedPair
pairs_of words = (past_from nothing words).pairs

-- the request that an operation is, if it is one
abbrev pub request_of : Operation → List Request
request_of (Access r) = r ∷ []
request_of (Regular a3) = []
request_of (Extended v) = []
request_of Refresh = []

-- the requests of the read and write pairs of a history, whose newest comes first: oldest first, each as its pair is read
abbrev pub requests_of : Timing → List ClosedPair → List Request
requests_of t [] = []
requests_of t (p ∷ ps) = requests_of t ps ++ request_of (operation_of t p.first p.second)

-- the clocks of the first words of the pairs of a history that pass a test: oldest first, where the history's newest comes first
abbrev pub starts_of : (ClosedPair → Bool) → List ClosedPair → List ℕ
starts_of was [] = []
starts_of was (p ∷ ps) = starts_of was ps ++ cond (was p) (p.start ∷ []) []

-- the clocks of the first words of the read and write pairs of a history, oldest first
abbrev pub starts : List ClosedPair → List ℕ
starts ps = starts_of was_access ps

-- no pair is open
abbrev pub NoneOpen : Phase → Type 0
NoneOpen (pair first) = ⊥
NoneOpen (between r) = Unit {0}

-- the theorem, for every trace
pub record Turns : Type 0 where
  -- each word is in one turn, in order
  pub covered : (words : List ℕ) → words_in_all (turns_of words) ≡ words
  -- a turn stands behind the words of those before it, where no pair is open
  pub placed : (words : List ℕ) (before after : List Turn) (x : Turn) → turns_of words ≡ before ++ x ∷ after
      → (clock_of x ≡ length (words_in_all before)) × NoneOpen (past_from nothing (words_in_all before)).phase
  -- the turns of two words are the closed pairs of the history, all of them
  pub pairs : (words : List ℕ) → reverse (pairs_in (turns_of words)) ≡ pairs_of words
