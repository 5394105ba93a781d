-- What lies behind an outcome that is a value: every test held, and every call before it gave a value. By which numbers a row of tests does
-- not refuse. And what lies behind a refusal: the test with its number failed, and those before it held.
use Prim.Native.Nat.{ℕ}
use mathlib.Core.Path.{◌≡◌, refl, sym, subst}
use mathlib.Core.Bool.{Bool, true, false}
use Rattle.basics.specs.Outcome.{Outcome, value, refused, require, given}

abbrev IsValue : {A : Type 0} → Outcome A → Type 0
IsValue (value a) = Unit {0}
IsValue (refused n) = ⊥

pub refused-value : {A : Type 0} {n : ℕ} {a : A} → refused n ≡ value a → ⊥
refused-value e = subst IsValue (sym e) tt

pub require-value : {A : Type 0} (b : Bool) (n : ℕ) (rest : Outcome A) {a : A} → require b n rest ≡ value a → (b ≡ true) × (rest ≡ value a)
require-value true n rest e = (refl, e)
require-value false n rest e = absurd (refused-value e)

pub given-value : {A B : Type 0} (x : Outcome A) (f : A → Outcome B) {b : B} → given x f ≡ value b
    → (a : A) × (x ≡ value a) × (f a ≡ value b)
given-value (value a) f e = (a, refl, e)
given-value (refused n) f e = absurd (refused-value e)

pub same_number : {A : Type 0} {m n : ℕ} → ◌≡◌ {A = Outcome A} (refused m) (refused n) → m ≡ n
same_number e = cc

-- a refusal by another number
pub refused-by : {A : Type 0} {m n : ℕ} → (m ≡ n → ⊥) → ◌≡◌ {A = Outcome A} (refused m) (refused n) → ⊥
refused-by h e = h (same_number e)

-- not refused by n
abbrev pub Not : {A : Type 0} → ℕ → Outcome A → Type 0
Not n x = x ≡ refused n → ⊥

pub value_not : {A : Type 0} (n : ℕ) (a : A) → Not n (value a)
value_not n a e = refused-value (sym e)

pub require-not : {A : Type 0} (b : Bool) (m n : ℕ) (x : Outcome A) → (m ≡ n → ⊥) → Not n x → Not n (require b m x)
require-not true m n x h k = k
require-not false m n x h k = refused-by h

pub given-not : {A B : Type 0} (n : ℕ) (x : Outcome A) (f : A → Outcome B) → Not n x → ((a : A) → Not n (f a)) → Not n (given x f)
given-not n (value a) f h k = k a
given-not n (refused m) f h k = λ e. h (cc)

-- a refusal by n comes from behind a call, or a test, that does not refuse by n, and from a test that does if nothing behind it does
pub given-behind : {A B : Type 0} {n : ℕ} (x : Outcome A) (f : A → Outcome B) → Not n x → given x f ≡ refused n
    → (a : A) × (x ≡ value a) × (f a ≡ refused n)
given-behind (value a) f h e = (a, refl, e)
given-behind (refused m) f h e = absurd (h (cc))

pub require-behind : {A : Type 0} (b : Bool) {m n : ℕ} (x : Outcome A) → (m ≡ n → ⊥) → require b m x ≡ refused n
    → (b ≡ true) × (x ≡ refused n)
require-behind true x h e = (refl, e)
require-behind false x h e = absurd (refused-by h e)

pub require-fails : {A : Type 0} (b : Bool) {n : ℕ} (x : Outcome A) → Not n x → require b n x ≡ refused n → b ≡ false
require-fails true x h e = absurd (h e)
require-fails false x h e = refl
