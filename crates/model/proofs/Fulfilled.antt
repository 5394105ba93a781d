-- First words against the bounds of the accepted requests, in order: those that have opened met theirs, and of the others none has passed.
-- So a bound that has passed was met.
use Prim.Native.Nat.{ℕ, ◌+◌, ◌≤◌, ◌<◌}
use mathlib.Core.Path.{◌≡◌, refl, sym, ap, subst}
use mathlib.Core.Bool.{Bool, true, false, cond}
use mathlib.Core.List.{List, [], ◌∷◌, ◌++◌, map, nil≢cons, head-eq_of_cons-eq, tail-eq_of_cons-eq}
use native.Mathlib.Omega.{arith}
use native.Mathlib.Nat.{le_trans}
use lib.ListN.{length, get_or}
use Rattle.config.specs.declared.Timing.{Timing}
use Rattle.command.specs.declared.operation.Request.{Request}
use Rattle.rules.specs.History.{ClosedPair}
use Rattle.model.proofs.Places.{only}
use Rattle.model.proofs.InTime.{last_ref}
use Rattle.model.proofs.Prompt.{Awaited, Prompt, due-by}
use Rattle.model.proofs.Soonest.{soonest, soonest_pace}
use Rattle.model.proofs.Punctual.{Queue}

-- of the bounds all, the first ones are met by first words at us, and Bs are the others
abbrev pub Met : List ℕ → List ℕ → List ℕ → Type 0
Met [] all Bs = all ≡ Bs
Met (u ∷ us) [] Bs = ⊥
Met (u ∷ us) (B ∷ all) Bs = (u + 1 ≤ B) × Met us all Bs

-- one more first word, which meets the next bound
pub one-met : (us all : List ℕ) (u B : ℕ) (Bs : List ℕ) → u + 1 ≤ B → Met us all (B ∷ Bs) → Met (us ++ (u ∷ [])) all Bs
one-met [] all u B Bs h e = subst (λ all. Met (u ∷ []) all Bs) (sym e) (h, refl)
one-met (v ∷ us) [] u B Bs h m = absurd m
one-met (v ∷ us) (C ∷ all) u B Bs h m = (m.0, one-met us all u B Bs h m.1)

-- one more bound, of a request that was just accepted
pub one-asked : (us all : List ℕ) (B : ℕ) (Bs : List ℕ) → Met us all Bs → Met us (all ++ (B ∷ [])) (Bs ++ (B ∷ []))
one-asked [] all B Bs e = ap (λ all. all ++ (B ∷ [])) e
one-asked (v ∷ us) [] B Bs m = absurd m
one-asked (v ∷ us) (C ∷ all) B Bs m = (m.0, one-asked us all B Bs m.1)

-- no bound of a list is before k
abbrev pub After : ℕ → List ℕ → Type 0
After k [] = Unit {0}
After k (B ∷ Bs) = (k ≤ B) × After k Bs

-- the bounds of those of a kind
abbrev pub bounds_of : (Request → Bool) → List Awaited → List ℕ
bounds_of g xs = map (λ x. x.bound) (only (λ x. g x.request) xs)

-- none of the requests that have not opened has its bound before the next clock
pub queue-after : (t : Timing) (g : Request → Bool) (ps : List ClosedPair) (k : ℕ) (xs : List Awaited) → Queue t ps k xs
    → After (k + 1) (bounds_of g xs)
queue-after t g ps k xs q = go xs q.punctual
  where
    F : ℕ
    F = soonest t ps k

    go : (xs : List Awaited) → Prompt t (last_ref ps) F xs → After (k + 1) (bounds_of g xs)
    go [] p = tt
    go (x ∷ xs) p = by (g x.request) (go xs p.1)
      where
        rest : List Awaited
        rest = only (λ x. g x.request) xs

        by : (b : Bool) → After (k + 1) (bounds_of g xs) → After (k + 1) (map (λ x. x.bound) (cond b (x ∷ rest) rest))
        by true a = (le_trans (soonest_pace t ps k).now (due-by t (last_ref ps) F x p.0), a)
        by false a = a

-- bounds that are not before k are not before an earlier clock
pub after_mono : (j k : ℕ) (Bs : List ℕ) → j ≤ k → After k Bs → After j Bs
after_mono j k [] h a = tt
after_mono j k (B ∷ Bs) h a = (le_trans h a.0, after_mono j k Bs h a.1)

-- the bound behind some others, once k has come to it, has been met
module _ {A : Type 0} (bound : A → ℕ) (k : ℕ) (a : A) (newer : List A) (Bs : List ℕ) (late : bound a < k) (h : After k Bs) where
  not_open : (older : List A) (Cs : List ℕ) → map bound (older ++ a ∷ newer) ≡ Cs → After k Cs → ⊥
  not_open [] [] e f = nil≢cons (sym e)
  not_open [] (C ∷ Cs) e f =
      let first = head-eq_of_cons-eq e in
      let near = f.0 in
      omega arith
  not_open (b ∷ older) [] e f = nil≢cons (sym e)
  not_open (b ∷ older) (C ∷ Cs) e f = not_open older Cs (tail-eq_of_cons-eq e) f.1

  pub met_at : (older : List A) (us : List ℕ) → Met us (map bound (older ++ a ∷ newer)) Bs
      → (length older < length us) × (get_or us (length older) 0 + 1 ≤ bound a)
  met_at older [] m = absurd (not_open older Bs m h)
  met_at [] (u ∷ us) m = (omega arith, m.0)
  met_at (b ∷ older) (u ∷ us) m =
      let r = met_at older us m.1 in
      let l = r.0 in
      (omega arith, r.1)
