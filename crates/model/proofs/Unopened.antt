-- What holds of the requests that have not opened holds of those that are left when one opens, and with one more behind that was accepted:
-- at most w others open before it, and its bound is that of demand 3 with w for q.
use Prim.Native.Nat.{ℕ, zero, suc, ◌+◌, ◌*◌, ◌≤◌, ◌<◌, max}
use mathlib.Core.Path.{◌≡◌, refl}
use mathlib.Core.Bool.{Bool, true, false, cond}
use mathlib.Core.List.{List, [], ◌∷◌, ◌++◌, map}
use mathlib.Core.Logic.{inl, inr, ⊎_elim}
use native.Mathlib.Omega.{arith}
use native.Mathlib.Nat.{add-mul, one-mul, mul-le-mul, mul-le-mul_right, le_trans}
use borrow.Author.Tests.{leb-true, leb-false}
use lib.Dec.{leb}
use Rattle.config.specs.declared.Timing.{Timing}
use Rattle.writing.specs.Writing.{request_fits}
use Rattle.command.specs.declared.operation.Request.{Request}
use Rattle.rules.specs.History.{ClosedPair}
use Rattle.rules.specs.Rules.{was_read, was_write, was_refresh}
use Rattle.rules.proofs.Newest.{Ordered, latest, latest_cons}
use Rattle.queue.specs.Place.{without}
use Rattle.model.proofs.Figures.{Figures}
use Rattle.model.proofs.Candidates.{AllFit}
use Rattle.model.proofs.InTime.{last_ref}
use Rattle.model.proofs.Prompt.{Awaited, requests, lower, Meets, Near, Close, meets-sooner, one_more}
use Rattle.model.proofs.Soonest.{soonest}
use Rattle.model.proofs.Punctual.{Queue}
use Rattle.model.proofs.Offers.{accepted-meets}

-- the bound that an offer at clock c gets if w others open before it at most, one more for the closing word
abbrev pub bound : Timing → ℕ → ℕ → ℕ
bound t c w = max c 201 + (w + 1) * t.spacing + t.rc + t.refc + 1

fit-more : (t : Timing) (xs : List Awaited) (x : Awaited) → AllFit t (requests xs) → request_fits t x.request ≡ true
    → AllFit t (requests (xs ++ (x ∷ [])))
fit-more t [] x a h = (h, tt)
fit-more t (y ∷ xs) x a h = (a.0, fit-more t xs x a.1 h)

close_more : (k : ℕ) (xs : List Awaited) (x : Awaited) → Close k xs → Near k x.bound → Close k (xs ++ (x ∷ []))
close_more k [] x c h = (h, tt)
close_more k (y ∷ xs) x c h = (c.0, close_more k xs x c.1 h)

-- bounds that are near stay near
pub close_later : (j k : ℕ) (xs : List Awaited) → j ≤ k → Close j xs → Close k xs
close_later j k [] h c = tt
close_later j k (x ∷ xs) h c = (⊎_elim (λ n. inl (omega arith)) inr c.0, close_later j k xs h c.1)

-- one that opens is no longer looked at
close_lower : (k : ℕ) (xs : List Awaited) → Close k xs → Close k (map lower xs)
close_lower k [] c = tt
close_lower k (x ∷ xs) c = (c.0, close_lower k xs c.1)

-- bounds stay near when one opens
pub close_without : (k p : ℕ) (xs : List Awaited) → Close k xs → Close k (map lower (without p xs))
close_without k p [] c = tt
close_without k zero (x ∷ xs) c = close_lower k xs c.1
close_without k (suc p) (x ∷ xs) c = (c.0, close_without k p xs c.1)

fit-lower : (t : Timing) (xs : List Awaited) → AllFit t (requests xs) → AllFit t (requests (map lower xs))
fit-lower t [] c = tt
fit-lower t (x ∷ xs) c = (c.0, fit-lower t xs c.1)

-- requests stay in range when one opens
pub fit-without : (t : Timing) (p : ℕ) (xs : List Awaited) → AllFit t (requests xs) → AllFit t (requests (map lower (without p xs)))
fit-without t p [] c = tt
fit-without t zero (x ∷ xs) c = fit-lower t xs c.1
fit-without t (suc p) (x ∷ xs) c = (c.0, fit-without t p xs c.1)

-- a closing word of an ordered history is before the clock that bounds it
latest-before : (g : ClosedPair → Bool) (k M : ℕ) → k ≤ M + 1 → (ps : List ClosedPair) → Ordered k ps → latest g ps ≤ M
latest-before g k M h [] o = omega arith
latest-before g k M h (p ∷ ps) o =
    let s = o.0 in
    rw (latest_cons g p ps) (go (g p) (latest-before g p.start M (omega arith) ps o.1))
  where
    go : (x : Bool) → latest g ps ≤ M → cond x (p.start + 1) (latest g ps) ≤ M
    go true older =
        let s = o.0 in
        omega arith
    go false older = older

-- with c ticks accepted, where w others open before at most; k is c, or one more in a pair
module _ (t : Timing) (f : Figures t) (ps : List ClosedPair) (k c w : ℕ) (o : Ordered k ps) (low : c ≤ k) (high : k ≤ c + 1)
    (few : w < 24) where
  -- S for each of them
  abbrev m : ℕ
  m = w * t.spacing

  m-bound : m ≤ 184
  m-bound = mul-le-mul {n₂ = 23} {m₂ = 8} (omega arith) f.spacing

  bound-is : bound t c w ≡ max c 201 + (m + t.spacing) + t.rc + t.refc + 1
  bound-is = rw (add-mul w 1 t.spacing, one-mul t.spacing)

  near-bound : Near k (bound t c w)
  near-bound = by (leb c 201) refl
    where
      spare : bound t c w ≤ max c 201 + 262
      spare =
          let b = m-bound in
          let s = f.spacing in
          let rc = f.rc.1 in
          let refc = f.refc.1 in
          rw bound-is (omega arith)

      by : (x : Bool) → leb c 201 ≡ x → Near k (bound t c w)
      by true e =
          let h = leb-true c 201 e in
          inr (le_trans spare (omega arith))
      by false e =
          let h = leb-false c 201 e in
          inl (le_trans spare (omega arith))

  meets-bound : (n : ℕ) → n ≤ w → Meets t (last_ref ps) (soonest t ps k + n * t.spacing) (bound t c w)
  meets-bound n h =
      let F = soonest t ps k in
      let M = max c 201 in
      let now : k ≤ M + 1 = omega arith in
      let l = mul-le-mul_right t.spacing h in
      let sooner : F + n * t.spacing ≤ F + m = omega arith in
      let read = latest-before was_read k M now ps o in
      let write = latest-before was_write k M now ps o in
      let refresh = latest-before was_refresh k M now ps o in
      let meets = accepted-meets t f ps k M m now (omega arith) read write refresh m-bound in
      meets-sooner t (last_ref ps) (F + m) (F + n * t.spacing) (bound t c w) sooner (rw bound-is meets)

  pub queue-offer : (xs : List Awaited) (r : Request) (n : ℕ) → n ≤ w → request_fits t r ≡ true → Queue t ps k xs
      → Queue t ps k (xs ++ (record { request = r; rank = n; bound = bound t c w } ∷ []))
  queue-offer xs r n l h a =
      let x : Awaited = record { request = r; rank = n; bound = bound t c w } in
      record {
        fit = fit-more t xs x a.fit h;
        near = close_more k xs x a.near near-bound;
        punctual = one_more t (last_ref ps) (soonest t ps k) x xs a.punctual (meets-bound n l);
      }
