-- Bounds for the closing words of waiting requests, their ranks, and the clock F at which a request may close.
use Prim.Native.Nat.{ℕ, zero, suc, ◌+◌, ◌*◌, ◌-◌, ◌≤◌, ◌<◌}
use mathlib.Core.Path.{◌≡◌}
use mathlib.Core.List.{List, [], ◌∷◌, ◌++◌, map}
use mathlib.Core.Option.{some, none-ne-some, some-injective}
use mathlib.Core.Logic.{◌⊎◌, inl, inr, ⊎_elim}
use native.Mathlib.Omega.{arith}
use native.Mathlib.Nat.{suc-mul}
use Rattle.config.specs.declared.Timing.{Timing}
use Rattle.command.specs.declared.operation.Request.{Request}
use Rattle.queue.specs.Place.{without}
use Rattle.model.specs.Laid.{entry_at}
use Rattle.model.proofs.Figures.{Figures}

-- a request that has not opened, at most how many others open before it, and the bound of its closing word
pub record Awaited : Type 0 where
  pub request : Request
  pub rank : ℕ
  pub bound : ℕ

-- the requests themselves
abbrev pub requests : List Awaited → List Request
requests xs = map (λ x. x.request) xs

-- another has opened
abbrev pub lower : Awaited → Awaited
lower x = record { request = x.request; rank = x.rank - 1; bound = x.bound }

-- a request that may close at F does so by B: the next refresh, behind the REF word r, is called for after B, or there is time for it
abbrev pub Meets : Timing → ℕ → ℕ → ℕ → Type 0
Meets t r F B = ((F ≤ B) × (B + t.rc < r + t.refi)) ⊎ (F + t.refc ≤ B)

-- the requests that have not opened: each may close S later for each that opens before it
abbrev pub Prompt : Timing → ℕ → ℕ → List Awaited → Type 0
Prompt t r F [] = Unit {0}
Prompt t r F (x ∷ xs) = Meets t r (F + x.rank * t.spacing) x.bound × Prompt t r F xs

-- no bound is far off
abbrev pub Near : ℕ → ℕ → Type 0
Near k B = (B ≤ k + 270) ⊎ (B ≤ 471)

-- no bound of a list is far off
abbrev pub Close : ℕ → List Awaited → Type 0
Close k [] = Unit {0}
Close k (x ∷ xs) = Near k x.bound × Close k xs

-- every one has rank to lose, and every one but that at a place
abbrev pub Positive : List Awaited → Type 0
Positive [] = Unit {0}
Positive (x ∷ xs) = (1 ≤ x.rank) × Positive xs

-- every one but that at a place has rank to lose
abbrev pub Spare : ℕ → List Awaited → Type 0
Spare p [] = Unit {0}
Spare zero (x ∷ xs) = Positive xs
Spare (suc p) (x ∷ xs) = (1 ≤ x.rank) × Spare p xs

module _ (t : Timing) where
  -- whoever may close sooner meets the bound too
  pub meets-sooner : (r F G B : ℕ) → G ≤ F → Meets t r F B → Meets t r G B
  meets-sooner r F G B h (inl m) = let m₀ = m.0 in inl (omega arith, m.1)
  meets-sooner r F G B h (inr m) = inr (omega arith)

  -- a list is prompt at an earlier F too
  pub sooner : (r F G : ℕ) (xs : List Awaited) → G ≤ F → Prompt t r F xs → Prompt t r G xs
  sooner r F G [] h p = tt
  sooner r F G (x ∷ xs) h p = (
    meets-sooner r (F + x.rank * t.spacing) (G + x.rank * t.spacing) x.bound (omega arith) p.0,
    sooner r F G xs h p.1,
  )

  meets-later : (r q F B : ℕ) → r ≤ q → Meets t r F B → Meets t q F B
  meets-later r q F B h (inl m) = let m₁ = m.1 in inl (m.0, omega arith)
  meets-later r q F B h (inr m) = inr m

  -- a later REF word calls for the next one later
  pub later_ref : (r q F : ℕ) (xs : List Awaited) → r ≤ q → Prompt t r F xs → Prompt t q F xs
  later_ref r q F [] h p = tt
  later_ref r q F (x ∷ xs) h p = (meets-later r q (F + x.rank * t.spacing) x.bound h p.0, later_ref r q F xs h p.1)

  pub one_more : (r F : ℕ) (x : Awaited) (xs : List Awaited) → Prompt t r F xs → Meets t r (F + x.rank * t.spacing) x.bound
      → Prompt t r F (xs ++ (x ∷ []))
  one_more r F x [] p m = (m, tt)
  one_more r F x (y ∷ xs) p m = (p.0, one_more r F x xs p.1 m)

  one_lower : (r F n B : ℕ) → 1 ≤ n → Meets t r (F + n * t.spacing) B → Meets t r (F + t.spacing + (n - 1) * t.spacing) B
  one_lower r F zero B h m = absurd (omega arith)
  one_lower r F (suc n) B h m =
      let e = suc-mul n t.spacing in
      let d : suc n - 1 ≡ n = omega arith in
      rw d (meets-sooner r (F + suc n * t.spacing) (F + t.spacing + n * t.spacing) B (omega arith) m)

  all-lower : (r F : ℕ) (xs : List Awaited) → Positive xs → Prompt t r F xs → Prompt t r (F + t.spacing) (map lower xs)
  all-lower r F [] s p = tt
  all-lower r F (x ∷ xs) s p = (one_lower r F x.rank x.bound s.0 p.0, all-lower r F xs s.1 p.1)

  -- the one at p opens: F moves on by S, and fewer open before each other
  pub one-opened : (r F p : ℕ) (xs : List Awaited) → Spare p xs → Prompt t r F xs → Prompt t r (F + t.spacing) (map lower (without p xs))
  one-opened r F p [] s q = tt
  one-opened r F zero (x ∷ xs) s q = all-lower r F xs s q.1
  one-opened r F (suc p) (x ∷ xs) s q = (one_lower r F x.rank x.bound s.0 q.0, one-opened r F p xs s.1 q.1)

  meets-by : (r F B : ℕ) → Meets t r F B → F ≤ B
  meets-by r F B (inl m) = m.0
  meets-by r F B (inr m) = omega arith

  -- F is no later than the bound of a request that is prompt
  pub due-by : (r F : ℕ) (x : Awaited) → Meets t r (F + x.rank * t.spacing) x.bound → F ≤ x.bound
  due-by r F x m =
      let h = meets-by r (F + x.rank * t.spacing) x.bound m in
      omega arith

  -- F is no later than the bound of the request at a place
  pub entry-by : (r F p : ℕ) (xs : List Awaited) (x : Awaited) → entry_at p xs ≡ some x → Prompt t r F xs → F ≤ x.bound
  entry-by r F p [] x e q = absurd (none-ne-some x e)
  entry-by r F zero (y ∷ xs) x e q =
      let h = due-by r F y q.0 in
      let s = some-injective y x e in
      rw (← s) h
  entry-by r F (suc p) (y ∷ xs) x e q = entry-by r F p xs x e q.1

  module _ (f : Figures t) (r k : ℕ) (due : r + t.refi ≤ k + t.rc) where
    meets-refresh : (F G B : ℕ) → k ≤ F → G ≡ F + t.refc → Near k B → Meets t r F B → Meets t (k + 1) G B
    meets-refresh F G B h e near (inl m) =
        let m₀ = m.0 in
        let m₁ = m.1 in
        absurd (omega arith)
    meets-refresh F G B h e near (inr m) =
        let rc = f.rc.1 in
        let long = f.refi in
        inl (omega arith, ⊎_elim (λ n. omega arith) (λ n. omega arith) near)

    -- a refresh at k, once it is called for, puts all off by REFC
    pub put_off : (F G : ℕ) (xs : List Awaited) → k ≤ F → G ≡ F + t.refc → Close k xs → Prompt t r F xs → Prompt t (k + 1) G xs
    put_off F G [] h e c p = tt
    put_off F G (x ∷ xs) h e c p = (
      meets-refresh (F + x.rank * t.spacing) (G + x.rank * t.spacing) x.bound (omega arith) (omega arith) c.0 p.0,
      put_off F G xs h e c.1 p.1,
    )
