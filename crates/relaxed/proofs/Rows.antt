-- Two sheets that agree in CL, BL, organisation and wiring; none of the second's counts is larger, and its D is no smaller. Then its timing
-- is no stricter than the first's to any rule but the twelfth, which reads W alone. For that one another timing may be the witness: W is
-- larger for a shorter period, where D is too.
use Prim.Native.Nat.{ℕ, ◌-◌, ◌≤◌}
use mathlib.Core.Path.{◌≡◌, ap}
use mathlib.Core.Bool.{cond}
use mathlib.Core.List.{List}
use native.Mathlib.Nat.{le_of_eq}
use lib.Dec.{eqb}
use Rattle.config.specs.Configuration.{rc_of, derived}
use Rattle.config.specs.declared.Config.{Config}
use Rattle.config.specs.declared.Timing.{Timing}
use Rattle.rules.specs.Verdict.{accepted, judge}
use Rattle.relaxed.specs.Dependence.{Dependence, NoStricter, Witness}
use Rattle.relaxed.proofs.Kept.{◌▸◌}
use Rattle.relaxed.proofs.Monotone.{monotone}

module _ (a b : Config) (cl : b.cl ≡ a.cl) (bl : b.bl ≡ a.bl) (organisation : b.organisation ≡ a.organisation)
    (wiring : b.wiring ≡ a.wiring) (rbd : b.rbd.0 ≤ a.rbd.0) (rwd : b.rwd.0 ≤ a.rwd.0) (wrd : b.wrd.0 ≤ a.wrd.0)
    (rsc : b.rsc.0 ≤ a.rsc.0) (refc : b.refc.0 ≤ a.refc.0) where
  abbrev s : Timing
  s = derived a

  abbrev t : Timing
  t = derived b

  -- RC and WL follow from CL
  rc : t.rc ≤ s.rc
  rc = le_of_eq (ap rc_of cl)

  same-cl : t.cl ≤ s.cl
  same-cl = le_of_eq cl

  same-bl : t.bl ≤ s.bl
  same-bl = le_of_eq bl

  wl : t.wl ≤ s.wl
  wl = le_of_eq (ap (λ n. n - 1) cl)

  witness : {words : List ℕ} {d : Dependence} (u : Timing) → judge u words ≡ accepted → NoStricter d u t → Witness t words d
  witness u e n = record { timing = u; no_stricter = n; passes = e }

  pub passes : s.refi ≤ t.refi → (u : Timing) → t.window ≤ u.window → (words : List ℕ)
      → judge s words ≡ accepted → judge u words ≡ accepted → judge t words ≡ accepted
  passes refi u window words e f =
      monotone.passes t words
      (witness s e (tt, tt, tt)
      ▸ witness s e (tt, rc ▸ same-cl ▸ same-bl ▸ wl ▸ rsc ▸ refc ▸ tt, tt)
      ▸ witness s e (tt, tt, refi ▸ tt)
      ▸ witness s e (cl ▸ bl ▸ tt, tt, tt)
      ▸ witness s e (bl ▸ organisation ▸ tt, tt, tt)
      ▸ witness s e (tt, tt, tt)
      ▸ witness s e (ap (λ n. cond (eqb n 4) 4 8) wiring ▸ tt, rc ▸ tt, tt)
      ▸ witness s e (tt, rbd ▸ rwd ▸ wrd ▸ tt, tt)
      ▸ witness s e (tt, rsc ▸ tt, tt)
      ▸ witness s e (tt, refc ▸ tt, tt)
      ▸ witness s e (tt, rc ▸ same-cl ▸ same-bl ▸ wl ▸ tt, tt)
      ▸ witness u f (tt, window ▸ tt, tt)
      ▸ witness s e (tt, tt, tt)
      ▸ tt)
