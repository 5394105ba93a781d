-- No two answers of the exam site's number fall together, and which numbers there are (RULES 10.2).
use Rattle.std.specs.Prelude.{ℕ, ◌/◌, ◌%◌, ◌≡◌, Bool, true, cond, ◌&&◌, ◌||◌, List, [], ◌∷◌, length, eqb, leb, ltb}
use Rattle.basics.specs.Numbers.{limit}
use Rattle.basics.specs.Outcome.{Outcome, value, refused}
use Rattle.config.specs.Configuration.{institute, wired_of, config_of}
use Rattle.config.specs.declared.Config.{Config}
use Rattle.rules.specs.Verdict.{Judgement, accepted, breach, check_bytes_of}
use Rattle.fcram.specs.Number.{number_of}

-- the number that the check of some bytes on a sheet answers: the contract of `fcram_check_wired`, and of `fcram_check` (RULES 10.1)
abbrev pub answer : Config → List ℕ → ℕ
answer c bytes = number_of (check_bytes_of c bytes)

-- what a number stands for (RULES 10.2): 0 is accepted, 1 and 2 are breaches at clock 0, a number from 3 to 64 is a refusal, and n above 64
-- is the breach n % 64 at clock n / 64
abbrev pub meaning : ℕ → Outcome Judgement
meaning n =
    cond (eqb n 0) (value accepted) (cond (leb n 2) (value (breach 0 n)) (cond (leb n 64) (refused n) (value (breach (n / 64) (n % 64)))))

-- the refusals that there are (RULES 10.2, 7.1)
abbrev pub is_refusal : ℕ → Bool
is_refusal n = eqb n 20 || eqb n 21 || eqb n 22 || eqb n 24 || eqb n 29 || eqb n 33 || eqb n 34

-- n is above 64, and the breach is by one of the thirteen numbers at a clock of a trace (RULES 10.2, 5.3)
abbrev pub is_breach : ℕ → Bool
is_breach n = ltb 64 n && (leb 1 (n % 64) && leb (n % 64) 13 && ltb (n / 64) limit)

-- the numbers that an answer can be (RULES 10.2)
abbrev pub is_answer : ℕ → Bool
is_answer n = leb n 2 || is_refusal n || is_breach n

-- the number on sheet E with another grade, period, RBD, REFC and wiring, of no bytes
abbrev pub on_sheet : ℕ → ℕ → ℕ → ℕ → ℕ → ℕ
on_sheet grade period rbd refc wiring = answer (wired_of grade 4 4 16 period rbd 3 1 7 refc wiring) []

-- numbers that are answers: accepted; on sheet E the words 100000 and 0, behind A0000 the word 80080, and a byte too many; refused sheets
abbrev pub examples : List ℕ
examples =
    on_sheet 37 5000 2 18 8
    ∷ answer institute (0x00 ∷ 0x00 ∷ 0x10 ∷ 0x00 ∷ [])
    ∷ answer institute (0x00 ∷ 0x00 ∷ 0x00 ∷ 0x00 ∷ [])
    ∷ answer institute (0x00 ∷ 0x00 ∷ 0x0A ∷ 0x00 ∷ 0x80 ∷ 0x00 ∷ 0x08 ∷ 0x00 ∷ [])
    ∷ answer institute (0x00 ∷ [])
    ∷ on_sheet 38 5000 2 18 8
    ∷ on_sheet 37 5000 2 18 2
    ∷ on_sheet 37 4499 2 18 8
    ∷ on_sheet 37 5000 1 18 8
    ∷ on_sheet 37 5000 2 17 8
    ∷ []

-- the theorem
pub record Distinct : Type 0 where
  -- two answers with the same number are the same outcome, whatever the two sheets and the two traces are
  pub same : (a b : Config) (x y : List ℕ) → answer a x ≡ answer b y → check_bytes_of a x ≡ check_bytes_of b y
  -- it is the one that the number stands for
  pub stands_for : (c : Config) (bytes : List ℕ) → check_bytes_of c bytes ≡ meaning (answer c bytes)
  -- no other number is an answer
  pub no_other : (c : Config) (bytes : List ℕ) → is_answer (answer c bytes) ≡ true
  -- each of those up to 64 is one, and so is breach 4 at clock 1
  pub some : examples ≡ 0 ∷ 1 ∷ 2 ∷ 68 ∷ 29 ∷ 20 ∷ 34 ∷ 21 ∷ 22 ∷ 33 ∷ []
  pub some-24 : (bytes : List ℕ) → length bytes ≡ 67108868 → answer institute bytes ≡ 24
  -- `fcram_check`, with its ten numbers and eight banks, never answers 34
  pub never-34 : (grade cl bl organisation period rbd rwd wrd rsc refc : ℕ) (bytes : List ℕ)
      → answer (config_of grade cl bl organisation period rbd rwd wrd rsc refc) bytes ≡ 34 → ⊥
