-- Places in a queue, whatever its entries are: what is left once the one at a place has left (RULES 8.2).
use Rattle.std.specs.Prelude.{ℕ, zero, suc, cond, List, [], ◌∷◌, ◌++◌, length, take, drop, ltb}

-- what is left without the entry at a place; where there is none, all
abbrev pub without : {A : Type 0} → ℕ → List A → List A
without p [] = []
without zero (x ∷ xs) = xs
without (suc p) (x ∷ xs) = x ∷ without p xs

-- of the first n the one at p has left: the others without it, the last of their places vacant, and what stands behind; where p is none of
-- them, nothing changes
abbrev pub closed_up : {A : Type 0} → A → ℕ → ℕ → List A → List A
closed_up v p n xs = cond (ltb p (length (take n xs))) (without p (take n xs) ++ (v ∷ drop n xs)) xs
