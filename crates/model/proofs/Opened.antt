-- What becomes of the requests when the one at a place opens: ranks fall, which changes neither requests nor bounds; of its kind it was
-- ahead of the others; and its first word meets the bound that was next.
use Prim.Native.Nat.{ℕ, ◌+◌, ◌≤◌}
use mathlib.Core.Path.{◌≡◌, refl, sym, ap, subst, subst⁻¹}
use mathlib.Core.Bool.{Bool, true, false, cond}
use mathlib.Core.List.{List, [], ◌∷◌, ◌++◌, map, map-append, append-nil}
use Rattle.command.specs.declared.operation.Request.{Request}
use Rattle.command.specs.declared.operation.Operation.TheVariants.{Access}
use Rattle.queue.specs.Place.{without}
use Rattle.model.proofs.Places.{only, only-map, without-map, Foremost}
use Rattle.model.proofs.Prompt.{Awaited, requests, lower}
use Rattle.model.proofs.Choice.{Ahead}
use Rattle.model.proofs.Fulfilled.{Met, one-met, bounds_of}

-- the requests and bounds stay when ranks fall
pub lower-requests : (xs : List Awaited) → requests (map lower xs) ≡ requests xs
lower-requests [] = refl
lower-requests (x ∷ xs) = ap (λ zs. x.request ∷ zs) (lower-requests xs)

lower_bounds : (g : Request → Bool) (xs : List Awaited) → bounds_of g (map lower xs) ≡ bounds_of g xs
lower_bounds g [] = refl
lower_bounds g (x ∷ xs) = go (g x.request) (lower_bounds g xs)
  where
    ours : List Awaited → List Awaited
    ours xs = only (λ x. g x.request) xs

    go : (b : Bool) → bounds_of g (map lower xs) ≡ bounds_of g xs
        → map (λ x. x.bound) (cond b (lower x ∷ ours (map lower xs)) (ours (map lower xs)))
        ≡ map (λ x. x.bound) (cond b (x ∷ ours xs) (ours xs))
    go true e = ap (λ zs. x.bound ∷ zs) e
    go false e = e

-- what holds of the requests with their ranks holds of the requests
pub ahead-requests : (g : Request → Bool) (i : ℕ) (xs : List Awaited) (x : Awaited) → Foremost (λ x. g x.request) i xs x
    → Ahead g (Access x.request) i (requests xs)
ahead-requests g i xs x e =
    let ask : Awaited → Request = λ x. x.request in
    rw (
      without-map ask i xs,
      only-map ask g (without i xs),
      only-map ask g xs,
      ← e,
      map-append ask (only (λ x. g x.request) (x ∷ [])) (only (λ x. g x.request) (without i xs)),
    )
    (go (g x.request))
  where
    rest : List Request
    rest = map (λ x. x.request) (only (λ x. g x.request) (without i xs))

    go : (b : Bool) → cond b (x.request ∷ []) [] ++ rest ≡ map (λ x. x.request) (cond b (x ∷ []) []) ++ rest
    go true = refl
    go false = refl

-- the first word of the one that opens meets its bound, if it is of the kind
pub opened-met : (g : Request → Bool) (i : ℕ) (xs : List Awaited) (x : Awaited) (r : Request) → x.request ≡ r
    → Foremost (λ x. g x.request) i xs x → (us all : List ℕ) (u : ℕ) → u + 1 ≤ x.bound → Met us all (bounds_of g xs)
    → Met (us ++ cond (g r) (u ∷ []) []) all (bounds_of g (map lower (without i xs)))
opened-met g i xs x r is e us all u h m =
    rw (lower_bounds g (without i xs), ← is)
    (go (g x.request) (subst (λ zs. Met us all (map (λ x. x.bound) zs)) (sym e) m))
  where
    rest : List Awaited
    rest = only (λ x. g x.request) (without i xs)

    go : (b : Bool) → Met us all (map (λ x. x.bound) (cond b (x ∷ []) [] ++ rest))
        → Met (us ++ cond b (u ∷ []) []) all (map (λ x. x.bound) rest)
    go true m = one-met us all u x.bound (map (λ x. x.bound) rest) h m
    go false m = subst⁻¹ (λ us. Met us all (map (λ x. x.bound) rest)) (append-nil us) m
