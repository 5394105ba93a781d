-- How many requests wait for each bank (RULES 8.9).
use Rattle.std.specs.Prelude.{ℕ, zero, suc, ◌<◌, ◌≡◌, Bool, true, ◌&&◌, List, [], ◌∷◌, get_or, eqb, count_by}
use Rattle.command.specs.declared.operation.Request.{Request}

-- how many of these requests are for bank b
abbrev pub for_bank : ℕ → List Request → ℕ
for_bank b rs = count_by (λ r. eqb r.bank b) rs

-- so for n banks, from bank b on
abbrev pub totals_from : ℕ → ℕ → List Request → List ℕ
totals_from b zero rs = []
totals_from b (suc n) rs = for_bank b rs ∷ totals_from (suc b) n rs

-- the totals of these requests: how many are for each of the eight banks, from bank 0 on
abbrev pub totals_of : List Request → List ℕ
totals_of rs = totals_from 0 8 rs

-- each of the eight totals is how many of these requests are for its bank
abbrev pub AreTotals : List ℕ → List Request → Type 0
AreTotals ts rs = (b : ℕ) → b < 8 → get_or ts b 0 ≡ for_bank b rs

-- it holds of each number below n
abbrev pub all_below : ℕ → (ℕ → Bool) → Bool
all_below zero p = true
all_below (suc n) p = all_below n p && p n

-- the totals are the same for each of the eight banks
abbrev pub same_totals : List ℕ → List ℕ → Bool
same_totals xs ys = all_below 8 (λ b. eqb (get_or xs b 0) (get_or ys b 0))
