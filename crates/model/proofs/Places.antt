-- Entries at places of a list, and those of a kind.
use Prim.Native.Nat.{ℕ, zero, suc, ◌+◌}
use mathlib.Core.Path.{◌≡◌, refl, ap, subst}
use mathlib.Core.Bool.{Bool, true, false, cond}
use mathlib.Core.List.{List, [], ◌∷◌, ◌++◌, map}
use mathlib.Core.Option.{some, none-ne-some, some-injective}
use native.Mathlib.Omega.{arith}
use lib.ListN.{length}
use Rattle.queue.specs.Place.{without}
use Rattle.model.specs.Laid.{entry_at}

-- those of a kind
abbrev pub only : {A : Type 0} → (A → Bool) → List A → List A
only g [] = []
only g (x ∷ xs) = cond (g x) (x ∷ only g xs) (only g xs)

-- those of a kind in two lists, one behind the other
pub only_append : {A : Type 0} (g : A → Bool) (xs ys : List A) → only g (xs ++ ys) ≡ only g xs ++ only g ys
only_append g [] ys = refl
only_append g (x ∷ xs) ys = go (g x) (only_append g xs ys)
  where
    go : (b : Bool) → only g (xs ++ ys) ≡ only g xs ++ only g ys
        → cond b (x ∷ only g (xs ++ ys)) (only g (xs ++ ys)) ≡ cond b (x ∷ only g xs) (only g xs) ++ only g ys
    go true e = ap (λ zs. x ∷ zs) e
    go false e = e

-- where all are of the kind, all are left
pub only-all : {A : Type 0} (xs : List A) → only (λ x. true) xs ≡ xs
only-all [] = refl
only-all (x ∷ xs) = ap (λ zs. x ∷ zs) (only-all xs)

-- a kind of what is read off the entries
pub only-map : {A B : Type 0} (f : A → B) (g : B → Bool) (xs : List A) → only g (map f xs) ≡ map f (only (λ x. g (f x)) xs)
only-map f g [] = refl
only-map f g (x ∷ xs) = go (g (f x)) (only-map f g xs)
  where
    go : (b : Bool) → only g (map f xs) ≡ map f (only (λ x. g (f x)) xs)
        → cond b (f x ∷ only g (map f xs)) (only g (map f xs)) ≡ map f (cond b (x ∷ only (λ x. g (f x)) xs) (only (λ x. g (f x)) xs))
    go true e = ap (λ zs. f x ∷ zs) e
    go false e = e

-- to read something off the entries and to leave one out go in either order
pub without-map : {A B : Type 0} (f : A → B) (p : ℕ) (xs : List A) → without p (map f xs) ≡ map f (without p xs)
without-map f p [] = refl
without-map f zero (x ∷ xs) = refl
without-map f (suc p) (x ∷ xs) = ap (λ zs. f x ∷ zs) (without-map f p xs)

-- the entry at a place of a list that is read off another
pub entry-map : {A B : Type 0} (f : A → B) (p : ℕ) (xs : List A) (b : B) → entry_at p (map f xs) ≡ some b
    → (a : A) × (entry_at p xs ≡ some a) × (f a ≡ b)
entry-map f p [] b e = absurd (none-ne-some b e)
entry-map f zero (x ∷ xs) b e = (x, refl, some-injective (f x) b e)
entry-map f (suc p) (x ∷ xs) b e = entry-map f p xs b e

-- one more behind changes neither the entry at a place nor what is left without it
pub entry_more : {A : Type 0} (p : ℕ) (xs ys : List A) (x : A) → entry_at p xs ≡ some x → entry_at p (xs ++ ys) ≡ some x
entry_more p [] ys x e = absurd (none-ne-some x e)
entry_more zero (y ∷ xs) ys x e = e
entry_more (suc p) (y ∷ xs) ys x e = entry_more p xs ys x e

-- entries behind stay behind what is left without one
pub without_more : {A : Type 0} (p : ℕ) (xs ys : List A) (x : A) → entry_at p xs ≡ some x → without p (xs ++ ys) ≡ without p xs ++ ys
without_more p [] ys x e = absurd (none-ne-some x e)
without_more zero (y ∷ xs) ys x e = refl
without_more (suc p) (y ∷ xs) ys x e = ap (λ zs. y ∷ zs) (without_more p xs ys x e)

-- one less is left
pub without-length : {A : Type 0} (p : ℕ) (xs : List A) (x : A) → entry_at p xs ≡ some x → length xs ≡ length (without p xs) + 1
without-length p [] x e = absurd (none-ne-some x e)
without-length zero (y ∷ xs) x e = omega arith
without-length (suc p) (y ∷ xs) x e =
    let l = without-length p xs x e in
    omega arith

-- whoever leaves the list is, of each kind, ahead of the others
abbrev pub Foremost : {A : Type 0} → (A → Bool) → ℕ → List A → A → Type 0
Foremost g p xs x = only g (x ∷ []) ++ only g (without p xs) ≡ only g xs

-- the first of all is ahead of the others of any kind
pub first_foremost : {A : Type 0} (g : A → Bool) (xs : List A) (x : A) → entry_at 0 xs ≡ some x → Foremost g 0 xs x
first_foremost g [] x e = absurd (none-ne-some x e)
first_foremost g (y ∷ xs) x e = go x (some-injective y x e)
  where
    one : (b : Bool) → cond b (y ∷ []) [] ++ only g xs ≡ cond b (y ∷ only g xs) (only g xs)
    one true = refl
    one false = refl

    go : (x : _) → y ≡ x → only g (x ∷ []) ++ only g xs ≡ only g (y ∷ xs)
    go x e = subst (λ z. only g (z ∷ []) ++ only g xs ≡ only g (y ∷ xs)) e (one (g y))
