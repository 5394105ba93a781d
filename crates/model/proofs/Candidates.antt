-- Whatever comes next is in range, if the waiting requests are, so its first word opens a pair.
use Prim.Native.Nat.{ℕ, zero, suc}
use mathlib.Core.Path.{◌≡◌, refl}
use mathlib.Core.Bool.{Bool, true, false, cond}
use mathlib.Core.List.{List, [], ◌∷◌}
use mathlib.Core.Option.{Option, none, some}
use lib.ListN.{length}
use lib.Dec.{leb}
use Rattle.config.specs.declared.Timing.{Timing}
use Rattle.command.specs.Pins.{high}
use Rattle.command.specs.Pairs.{selected}
use Rattle.writing.specs.Writing.{pair_of, operation_fits, request_fits}
use Rattle.command.specs.declared.operation.Request.{Request}
use Rattle.command.specs.declared.operation.Operation.{Operation}
use Rattle.command.specs.declared.operation.Operation.TheVariants.{Access, Regular, Extended, Refresh}
use Rattle.roundtrip.proofs.SoundPair.{sound-tests}
use Rattle.roundtrip.proofs.WrittenBack.{written_back}
use Rattle.rules.specs.History.{Past}
use Rattle.rules.specs.Rules.{closings, was_extended, was_regular, was_refresh}
use Rattle.model.specs.Laid.{entry_at, first_of_two, start_up, refresh_due, asked, candidate}
use Rattle.model.proofs.Figures.{Figures}

-- every waiting request is in range
abbrev pub AllFit : Timing → List Request → Type 0
AllFit t [] = Unit {0}
AllFit t (r ∷ rs) = (request_fits t r ≡ true) × AllFit t rs

-- the chosen request is in range
abbrev pub FitIf : Timing → Option Request → Type 0
FitIf t none = Unit {0}
FitIf t (some r) = request_fits t r ≡ true

-- where all that wait are in range, the one at any place is
pub entry-fits : (t : Timing) (p : ℕ) (rs : List Request) → AllFit t rs → FitIf t (entry_at p rs)
entry-fits t p [] a = tt
entry-fits t zero (r ∷ rs) a = a.0
entry-fits t (suc p) (r ∷ rs) a = entry-fits t p rs a.1

-- a read or write is that of the chosen request
abbrev pub OfChosen : Option Request → Operation → Type 0
OfChosen x (Access r) = x ≡ some r
OfChosen x (Regular a3) = Unit {0}
OfChosen x (Extended v) = Unit {0}
OfChosen x Refresh = Unit {0}

-- in range; and where it is a read or write, that of the chosen request
abbrev pub Due : Timing → Option Request → Option Operation → Type 0
Due t x none = Unit {0}
Due t x (some o) = (operation_fits t o ≡ true) × OfChosen x o

or_else_due : (t : Timing) (x : Option Request) (a b : Option Operation) → Due t x a → Due t x b → Due t x (first_of_two a b)
or_else_due t x none b f g = g
or_else_due t x (some o) b f g = f

start_up_due : (t : Timing) (x : Option Request) (extended regular refreshed : Bool)
    → Due t x (cond extended (cond regular (cond refreshed none (some Refresh)) (some (Regular false))) (some (Extended 0)))
start_up_due t x false b d = (refl, tt)
start_up_due t x true false d = (refl, tt)
start_up_due t x true true false = (refl, tt)
start_up_due t x true true true = tt

asked-due : (t : Timing) (x : Option Request) → FitIf t x → Due t x (asked x)
asked-due t none f = tt
asked-due t (some r) f = (f, refl)

refresh-due : (t : Timing) (x : Option Request) (due : Bool) (o : Option Operation) → Due t x o → Due t x (cond due (some Refresh) o)
refresh-due t x true o f = (refl, tt)
refresh-due t x false o f = f

-- whatever comes next is in range, and a read or write is the chosen one
pub candidate-due : (t : Timing) (p : Past) (x : Option Request) → FitIf t x → Due t x (candidate t p x)
candidate-due t p x f =
    let ps = p.pairs in
    or_else_due t x (start_up ps) (cond (refresh_due t p) (some Refresh) (asked x))
    (start_up_due t x (leb 1 (length (closings was_extended ps))) (leb 1 (length (closings was_regular ps)))
    (leb 2 (length (closings was_refresh ps))))
    (refresh-due t x (refresh_due t p) (asked x) (asked-due t x f))

-- the first word of an operation in range has PD high, and opens a pair
pub fits_open : (t : Timing) (f : Figures t) (o : Operation) → operation_fits t o ≡ true
    → (high 19 (pair_of t o).first ≡ true) × (selected (pair_of t o).first ≡ true)
fits_open t f o h =
    let w = pair_of t o in
    let sound = sound-tests t w.first w.second (written_back t f.bl f.cl o h).0 in
    (sound.pd₁, rw sound.cs)
