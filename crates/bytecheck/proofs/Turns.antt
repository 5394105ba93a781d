-- The marks of the words before a clock: where the next read or write is, and the marks behind it.
use Rattle.std.proofs.Common.{ℕ, ◌+◌, ◌-◌, ◌/◌, ◌^◌, ◌≤◌, ◌<◌, ◌≡◌, ◌∙◌, List, arith}
use lib.Pow.{shr-shr}
use lib.Count.{count_trailing_zeros}
use Rattle.runs.specs.Runs.{marks}
use Rattle.runs.proofs.Marked.{First, marks-first, marks-after}

-- the marks of the words before `stop` from a clock on
pub record Marking (ws : List ℕ) (stop clock m : ℕ) : Type 0 where
  pub before : clock ≤ stop + 1
  pub since : stop ≤ clock + 58
  pub marked : m ≡ marks 18 3 ws clock (stop - clock)

-- the lowest of them, and those behind a pair
first_of : (ws : List ℕ) (from n m : ℕ) → m ≡ marks 18 3 ws from n → n ≤ 64 → 0 < m → First 18 3 ws from n (count_trailing_zeros 64 m)
first_of ws from n m is h some = rw is (marks-first 18 3 ws 64 from n h (rw is at some))

pub after-of : (ws : List ℕ) (clock stop lead m : ℕ) → m ≡ marks 18 3 ws clock (stop - clock)
    → m / 4 / 2 ^ lead ≡ marks 18 3 ws (clock + lead + 1 + 1) (stop - (clock + lead + 1 + 1))
after-of ws clock stop lead m is =
    let at : clock + (2 + lead) ≡ clock + lead + 1 + 1 = omega arith in
    let left : stop - clock - (2 + lead) ≡ stop - (clock + lead + 1 + 1) = omega arith in
    let after : m / 2 ^ (2 + lead) ≡ marks 18 3 ws (clock + (2 + lead)) (stop - clock - (2 + lead)) =
    rw is (marks-after 18 3 ws (2 + lead) clock (stop - clock)) in
    shr-shr m 2 lead ∙ (rw (at, left) at after)

-- the lowest mark says where the next pair is
pub lowest : {ws : List ℕ} {stop clock m : ℕ} → Marking ws stop clock m → (m ≡ 0 → ⊥)
    → First 18 3 ws clock (stop - clock) (count_trailing_zeros 64 m)
lowest {ws} {stop} {clock} {m} marking some = first_of ws clock (stop - clock) m marking.marked (omega (arith, marking.since)) (omega arith)
