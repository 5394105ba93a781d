-- What is kept of a history, as a function of it; a pair that closes changes it as `remembered` says.
use Prim.Native.Nat.{ℕ, zero, suc, ◌+◌, ◌<◌}
use mathlib.Core.Path.{◌≡◌, refl, ◌∙◌, ap, fun_ext}
use mathlib.Core.Bool.{Bool, true, false, cond, ◌&&◌}
use mathlib.Core.List.{List, [], ◌∷◌}
use native.Mathlib.Omega.{arith}
use lib.ListN.{get_or, set}
use lib.Dec.{eqb}
use Rattle.command.specs.Pins.{high}
use Rattle.command.specs.Pairs.{rda, lal}
use Rattle.rules.specs.History.{ClosedPair}
use Rattle.command.specs.Address.{bank_of}
use Rattle.rules.specs.Rules.{was_read, was_write, was_access, was_mode, was_refresh, was_regular, was_extended, closings, oldest}
use Rattle.stamps.specs.Stamps.{with_access, with_mode, with_refresh, remembered}
use Rattle.stamps.specs.declared.Timestamps.{Timestamps}
use Rattle.rules.proofs.Closings.{closings_past0, oldest_cons}
use Rattle.rules.proofs.Newest.{latest, latest_cons}

-- a read or write of a bank, with four banks (true) or eight
abbrev pub of_bank : Bool → ℕ → ClosedPair → Bool
of_bank four b p = was_access p && eqb (bank_of four p.first) b

-- one number for each bank that there can be
abbrev pub each_bank : (ℕ → ℕ) → List ℕ
each_bank f = f 0 ∷ f 1 ∷ f 2 ∷ f 3 ∷ f 4 ∷ f 5 ∷ f 6 ∷ f 7 ∷ []

-- the first eight of a list, 0 past its end
abbrev pub first_eight : List ℕ → List ℕ
first_eight ks = each_bank (λ i. get_or ks i 0)

abbrev pub summary : Bool → List ClosedPair → Timestamps
summary four ps =
    record {
      extended = oldest (closings was_extended ps);
      regular = latest was_regular ps;
      mode = latest was_mode ps;
      read = latest was_read ps;
      write = latest was_write ps;
      banks = each_bank (λ b. latest (of_bank four b) ps);
      refs = first_eight (closings was_refresh ps);
    }

-- a list of eight, changed at one place
pub set-bank : (f : ℕ → ℕ) (b k : ℕ) → b < 8 → set (each_bank f) b k ≡ each_bank (λ i. cond (eqb b i) k (f i))
set-bank f zero k h = refl
set-bank f (suc zero) k h = refl
set-bank f (suc (suc zero)) k h = refl
set-bank f (suc (suc (suc zero))) k h = refl
set-bank f (suc (suc (suc (suc zero)))) k h = refl
set-bank f (suc (suc (suc (suc (suc zero))))) k h = refl
set-bank f (suc (suc (suc (suc (suc (suc zero)))))) k h = refl
set-bank f (suc (suc (suc (suc (suc (suc (suc zero))))))) k h = refl
set-bank f (suc (suc (suc (suc (suc (suc (suc (suc b)))))))) k h = absurd (omega arith)

pub get_bank : (f : ℕ → ℕ) (b : ℕ) → b < 8 → get_or (each_bank f) b 0 ≡ f b
get_bank f zero h = refl
get_bank f (suc zero) h = refl
get_bank f (suc (suc zero)) h = refl
get_bank f (suc (suc (suc zero))) h = refl
get_bank f (suc (suc (suc (suc zero)))) h = refl
get_bank f (suc (suc (suc (suc (suc zero))))) h = refl
get_bank f (suc (suc (suc (suc (suc (suc zero)))))) h = refl
get_bank f (suc (suc (suc (suc (suc (suc (suc zero))))))) h = refl
get_bank f (suc (suc (suc (suc (suc (suc (suc (suc b)))))))) h = omega arith

pub bank-bound : (four : Bool) (first : ℕ) → bank_of four first < 8
bank-bound true first = omega arith
bank-bound false first = omega arith

-- the three cases of `remembered`
module _ (four : Bool) (s : Timestamps) (k first second : ℕ) where
  remember_access : lal second ≡ true → with_access s k (rda first) (bank_of four first) ≡ remembered four s k first second
  remember_access l = rw l

  remember_mode : lal second ≡ false → rda first ≡ true → with_mode s k (high 14 second) ≡ remembered four s k first second
  remember_mode l r = rw (l, r)

  remember_refresh : lal second ≡ false → rda first ≡ false → with_refresh s k ≡ remembered four s k first second
  remember_refresh l r = rw (l, r)

module _ (four : Bool) (u first second : ℕ) (ps : List ClosedPair) where
  abbrev pair : ClosedPair
  pair = record { start = u; first = first; second = second }

  banks : each_bank (λ b. latest (of_bank four b) (pair ∷ ps))
      ≡ each_bank (λ b. cond (of_bank four b pair) (u + 1) (latest (of_bank four b) ps))
  banks = ap each_bank (fun_ext (λ b. latest_cons (of_bank four b) pair ps))

  access : (r : Bool) → rda first ≡ r → lal second ≡ true
      → summary four (pair ∷ ps) ≡ with_access (summary four ps) (u + 1) r (bank_of four first)
  access true r l = rw (banks, r, l, set-bank (λ b. latest (of_bank four b) ps) (bank_of four first) (u + 1) (bank-bound four first))
  access false r l = rw (banks, r, l, set-bank (λ b. latest (of_bank four b) ps) (bank_of four first) (u + 1) (bank-bound four first))

  mode : (e : Bool) → high 14 second ≡ e → rda first ≡ true → lal second ≡ false
      → summary four (pair ∷ ps) ≡ with_mode (summary four ps) (u + 1) e
  mode true e r l = rw (r, l, e, oldest_cons (u + 1) (closings was_extended ps) (closings_past0 was_extended ps))
  mode false e r l = rw (r, l, e)

  refresh : rda first ≡ false → lal second ≡ false → summary four (pair ∷ ps) ≡ with_refresh (summary four ps) (u + 1)
  refresh r l = rw (r, l)

  pub summary-step : summary four (pair ∷ ps) ≡ remembered four (summary four ps) (u + 1) first second
  summary-step = by_kind (lal second) refl (rda first) refl
    where
      by_kind : (l : Bool) → lal second ≡ l → (r : Bool) → rda first ≡ r
          → summary four (pair ∷ ps) ≡ remembered four (summary four ps) (u + 1) first second
      by_kind true l r e = access (rda first) refl l ∙ remember_access four (summary four ps) (u + 1) first second l
      by_kind false l true r = mode (high 14 second) refl r l ∙ remember_mode four (summary four ps) (u + 1) first second l r
      by_kind false l false r = refresh r l ∙ remember_refresh four (summary four ps) (u + 1) first second l r
