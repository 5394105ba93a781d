-- Each rule is kept on a timing that is no stricter to it. A spacing that is no less than a count is no less than a smaller one; so a test
-- that fails for the one fails for the other, also behind a guard, beside another such test, and of every earlier pair.
use Prim.Native.Nat.{ℕ, ◌+◌, ◌-◌, ◌*◌, ◌/◌, ◌≤◌, min}
use mathlib.Core.Path.{◌≡◌, refl, ◌∙◌}
use mathlib.Core.Bool.{Bool, true, false, not, ◌&&◌, ◌||◌, cond, true≢false}
use mathlib.Core.List.{List, [], ◌∷◌}
use native.Mathlib.Omega.{arith}
use borrow.Author.Tests.{ltb-false, le-ltb}
use native.Mathlib.Nat.{mul-le-mul_left}
use lib.ListN.{length, get_or}
use lib.Dec.{leb, ltb, eqb}
use Rattle.config.specs.declared.Timing.{Timing}
use Rattle.command.specs.Pins.{high}
use Rattle.command.specs.Pairs.{selected, lal, is_read, is_write, is_mode, is_refresh}
use Rattle.command.specs.Address.{bank_of}
use Rattle.reading.specs.Reading.{register_fits}
use Rattle.rules.specs.History.{ClosedPair, Phase, pair, between, idle, powered_down, exiting, Past}
use Rattle.rules.specs.Rules.{Rule, was_read, was_write, was_access, was_mode, was_refresh, earlier, closings}
use Rattle.rules.specs.Rules.{too_soon_to_power_down, at_closing}
use Rattle.rules.specs.Rules.{rule2, rule3, rule4, rule5, rule6, rule7, rule8, rule9, rule10, rule11, rule12}
use Rattle.relaxed.specs.Dependence.{Every, Suffices, dependences}

-- what each member of a list has: nested pairs, where a tuple would be flat
infixr 5 ◌▸◌
pub ◌▸◌ : {A B : Type 0} → A → B → A × B
a ▸ b = (a, b)

-- the second test fails where the first does
abbrev Fails : Bool → Bool → Type 0
Fails x y = x ≡ false → y ≡ false

-- a rule is kept on the second timing where it is on the first
abbrev Follows : Rule → Timing → Timing → Type 0
Follows rule s t = (p : Past) (w : ℕ) → Fails (rule s p w) (rule t p w)

-- behind a guard, beside another test, by an order, by an equality
guarded : (g : Bool) {x y : Bool} → Fails x y → Fails (g && x) (g && y)
guarded true h = h
guarded false h = λ e. refl

beside : (x : Bool) {y x' y' : Bool} → Fails x y → Fails x' y' → Fails (x || x') (y || y')
beside true h k e = absurd (true≢false e)
beside false h k e = rw (h refl) (k e)

order : (a b c d : ℕ) → (b ≤ a → d ≤ c) → Fails (ltb a b) (ltb c d)
order a b c d h e = le-ltb c d (h (ltb-false a b e))

same : {x y : Bool} → y ≡ x → Fails x y
same q e = q ∙ e

-- of every earlier pair
any_earlier : {f g : ClosedPair → Bool} (ps : List ClosedPair) → ((p : ClosedPair) → Fails (f p) (g p))
    → Fails (earlier f ps) (earlier g ps)
any_earlier [] h = λ e. refl
any_earlier (p ∷ ps) h = beside _ (h p) (any_earlier ps h)

-- a spacing from every earlier pair with a property, from its first word or from its LAL
module _ (was : ClosedPair → Bool) (k : ℕ) (ps : List ClosedPair) {m n : ℕ} (h : n ≤ m) where
  since : (from : ClosedPair → ℕ) → Fails (earlier (λ p. was p && ltb (k - from p) m) ps) (earlier (λ p. was p && ltb (k - from p) n) ps)
  since from = any_earlier ps (λ p. guarded (was p) (order (k - from p) m (k - from p) n (λ l. omega arith)))

  from_start : Fails (earlier (λ p. was p && ltb (k - p.start) m) ps) (earlier (λ p. was p && ltb (k - p.start) n) ps)
  from_start = since (λ p. p.start)

  from-lal : Fails (earlier (λ p. was p && ltb (k - (p.start + 1)) m) ps) (earlier (λ p. was p && ltb (k - (p.start + 1)) n) ps)
  from-lal = since (λ p. p.start + 1)

-- a past whose next word meets o
abbrev meeting : Phase → Past → Past
meeting o p = record { clock = p.clock; phase = o; pairs = p.pairs }

module _ (s t : Timing) where
  -- a rule that is judged at closing words alone
  closing : (rule : Timing → List ClosedPair → ℕ → ℕ → ℕ → Bool)
      → ((ps : List ClosedPair) (u first w : ℕ) → Fails (rule s ps u first w) (rule t ps u first w)) → Follows (at_closing rule) s t
  closing rule h p w = by p.phase
    where
      by : (o : Phase) → Fails (at_closing rule s (meeting o p) w) (at_closing rule t (meeting o p) w)
      by (pair first) = h p.pairs (p.clock - 1) first w
      by (between r) = λ e. refl

  module _ (rc : t.rc ≤ s.rc) (cl : t.cl ≤ s.cl) (bl : t.bl ≤ s.bl) (wl : t.wl ≤ s.wl) where
    read-data : t.cl + t.bl / 2 ≤ s.cl + s.bl / 2
    read-data = omega arith

    -- rule 2
    too_soon : t.rsc ≤ s.rsc → t.refc ≤ s.refc → (k : ℕ) (ps : List ClosedPair)
        → Fails (too_soon_to_power_down s ps k) (too_soon_to_power_down t ps k)
    too_soon rsc refc k ps =
        let write : t.wl + 2 ≤ s.wl + 2 = omega arith in
        beside _
        (beside _
        (beside _
        (beside _ (from_start was_access k ps rc) (from_start was_mode k ps rsc))
        (from_start was_refresh k ps refc))
        (from-lal was_read k ps read-data))
        (from-lal was_write k ps write)

    low : t.rsc ≤ s.rsc → t.refc ≤ s.refc → Follows rule2 s t
    low rsc refc p w = by p.phase
      where
        by : (o : Phase) → Fails (rule2 s (meeting o p) w) (rule2 t (meeting o p) w)
        by (pair first) = λ e. e
        by (between idle) = guarded (not (high 19 w)) (beside (selected w) (λ e. e) (too_soon rsc refc p.clock p.pairs))
        by (between powered_down) = λ e. e
        by (between exiting) = λ e. e

    -- rule 11
    busy : Follows (at_closing rule11) s t
    busy =
        let write : t.wl + t.bl / 2 ≤ s.wl + s.bl / 2 = omega arith in
        closing rule11
        (λ ps u first w. beside _
        (beside _ (guarded (not (lal w)) (from_start was_access u ps rc)) (guarded (is_mode first w) (from-lal was_read u ps read-data)))
        (guarded (is_mode first w) (from-lal was_write u ps write)))

  -- rule 3
  overdue : s.refi ≤ t.refi → Follows rule3 s t
  overdue h p w =
      let refs = closings was_refresh p.pairs in
      let m = min (length refs) 8 in
      let x = p.clock - get_or refs (m - 1) 0 in
      let q = mul-le-mul_left m h in
      guarded (leb 1 m) (order (m * s.refi) x (m * t.refi) x (λ l. omega arith))

  -- rule 4, by what an MRS wants of its register
  register : t.cl ≡ s.cl → t.bl ≡ s.bl → (b : Bool) (w : ℕ) → register_fits b t w ≡ register_fits b s w
  register cl bl false w = rw (cl, bl)
  register cl bl true w = refl

  wrong_fields : t.cl ≡ s.cl → t.bl ≡ s.bl → Follows (at_closing rule4) s t
  wrong_fields cl bl = closing rule4 (λ ps u first w. same (rw (register cl bl (high 14 w) w)))

  -- rule 5
  reserved-lane : t.bl ≡ s.bl → t.organisation ≡ s.organisation → Follows (at_closing rule5) s t
  reserved-lane bl organisation = closing rule5 (λ ps u first w. same (rw (bl, organisation)))

  -- rule 7
  same-bank : t.four ≡ s.four → t.rc ≤ s.rc → Follows (at_closing rule7) s t
  same-bank four rc =
      closing rule7
      (λ ps u first w. rw (four)
      (guarded (lal w) (from_start (λ p. was_access p && eqb (bank_of s.four p.first) (bank_of s.four first)) u ps rc)))

  -- rule 8
  too_close : t.rbd ≤ s.rbd → t.rwd ≤ s.rwd → t.wrd ≤ s.wrd → Follows (at_closing rule8) s t
  too_close rbd rwd wrd =
      closing rule8
      (λ ps u first w. beside _
      (beside _ (guarded (lal w) (from_start was_access u ps rbd)) (guarded (is_write first w) (from-lal was_read u ps rwd)))
      (guarded (is_read first w) (from-lal was_write u ps wrd)))

  -- rules 9 and 10
  after-mode : t.rsc ≤ s.rsc → Follows (at_closing rule9) s t
  after-mode rsc = closing rule9 (λ ps u first w. from_start was_mode u ps rsc)

  after-refresh : t.refc ≤ s.refc → Follows (at_closing rule10) s t
  after-refresh refc = closing rule10 (λ ps u first w. from_start was_refresh u ps refc)

  -- rule 12
  window : t.window ≤ s.window → Follows (at_closing rule12) s t
  window h =
      closing rule12
      (λ ps u first w. let refs = closings was_refresh ps in
      let x = u + 1 - get_or refs 7 0 in
      guarded (is_refresh first w) (guarded (leb 8 (length refs)) (order x s.window x t.window (λ l. omega arith))))

-- the wiring by its number of banks
wired : (a b : Bool) → ◌≡◌ {A = ℕ} (cond a 4 8) (cond b 4 8) → a ≡ b
wired true true e = refl
wired true false e = absurd (omega arith)
wired false true e = absurd (omega arith)
wired false false e = refl

pub kept : Every Suffices dependences
kept =
    (λ s t p w h e. e)
    ▸ (λ s t p w h. let n = h.1 in low s t n.0 n.1.0 n.1.1.0 n.1.1.1.0 n.1.1.1.1.0 n.1.1.1.1.1.0 p w)
    ▸ (λ s t p w h. overdue s t h.2.0 p w)
    ▸ (λ s t p w h. wrong_fields s t h.0.0 h.0.1.0 p w)
    ▸ (λ s t p w h. reserved-lane s t h.0.0 h.0.1.0 p w)
    ▸ (λ s t p w h. closing s t rule6 (λ ps u first w e. e) p w)
    ▸ (λ s t p w h. same-bank s t (wired t.four s.four h.0.0) h.1.0 p w)
    ▸ (λ s t p w h. too_close s t h.1.0 h.1.1.0 h.1.1.1.0 p w)
    ▸ (λ s t p w h. after-mode s t h.1.0 p w)
    ▸ (λ s t p w h. after-refresh s t h.1.0 p w)
    ▸ (λ s t p w h. let n = h.1 in busy s t n.0 n.1.0 n.1.1.0 n.1.1.1.0 p w)
    ▸ (λ s t p w h. window s t h.1.0 p w)
    ▸ (λ s t p w h e. e)
    ▸ tt
