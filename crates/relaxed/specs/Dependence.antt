-- What each rule reads of the timing, and which way it is monotone in it, as one table (RULES 5.6). Of two timings, a rule that is kept on
-- the first is kept on the second, if what it reads is on the second as its row says: equal, no larger, or no smaller.
use Rattle.std.specs.Prelude.{ℕ, ◌≤◌, ◌≡◌, false, cond, List, [], ◌∷◌, map}
use Rattle.config.specs.declared.Timing.{Timing}
use Rattle.rules.specs.History.{Past}
use Rattle.rules.specs.Rules.{Rule, at_closing, rules}
use Rattle.rules.specs.Rules.{rule1, rule2, rule3, rule4, rule5, rule6, rule7, rule8, rule9, rule10, rule11, rule12, rule13}
use Rattle.rules.specs.Verdict.{accepted, judge}

-- what rules read of a timing (RULES 1.1, 1.3)
pub data Figure : Type 0 where
  CL : Figure
  BL : Figure
  organisation : Figure
  banks : Figure
  RBD : Figure
  RWD : Figure
  WRD : Figure
  RSC : Figure
  REFC : Figure
  RC : Figure
  WL : Figure
  D : Figure
  W : Figure

-- its value; the wiring is its number of banks (RULES 1.6)
abbrev pub of : Figure → Timing → ℕ
of CL t = t.cl
of BL t = t.bl
of organisation t = t.organisation
of banks t = cond t.four 4 8
of RBD t = t.rbd
of RWD t = t.rwd
of WRD t = t.wrd
of RSC t = t.rsc
of REFC t = t.refc
of RC t = t.rc
of WL t = t.wl
of D t = t.refi
of W t = t.window

-- a rule and the figures that it may read: on a second timing it is enough that those of the first list are equal, those of the next no
-- larger, and those of the last no smaller
pub record Dependence : Type 0 where
  pub rule : Rule
  pub equal : List Figure
  pub no_larger : List Figure
  pub no_smaller : List Figure

-- a row with these
abbrev pub row : Rule → List Figure → List Figure → List Figure → Dependence
row rule equal no_larger no_smaller = record { rule = rule; equal = equal; no_larger = no_larger; no_smaller = no_smaller }

-- the table, in the order of the rules
abbrev pub dependences : List Dependence
dependences =
    row rule1 [] [] []
    ∷ row rule2 [] (RC ∷ CL ∷ BL ∷ WL ∷ RSC ∷ REFC ∷ []) []
    ∷ row rule3 [] [] (D ∷ [])
    ∷ row (at_closing rule4) (CL ∷ BL ∷ []) [] []
    ∷ row (at_closing rule5) (BL ∷ organisation ∷ []) [] []
    ∷ row (at_closing rule6) [] [] []
    ∷ row (at_closing rule7) (banks ∷ []) (RC ∷ []) []
    ∷ row (at_closing rule8) [] (RBD ∷ RWD ∷ WRD ∷ []) []
    ∷ row (at_closing rule9) [] (RSC ∷ []) []
    ∷ row (at_closing rule10) [] (REFC ∷ []) []
    ∷ row (at_closing rule11) [] (RC ∷ CL ∷ BL ∷ WL ∷ []) []
    ∷ row (at_closing rule12) [] (W ∷ []) []
    ∷ row rule13 [] [] []
    ∷ []

-- each member of a list has the property
abbrev pub Every : {A : Type 0} → (A → Type 0) → List A → Type 0
Every P [] = Unit {0}
Every P (x ∷ xs) = P x × Every P xs

-- to the rule of a row the timing t is no stricter than s
abbrev pub NoStricter : Dependence → Timing → Timing → Type 0
NoStricter d s t =
    Every (λ f. of f t ≡ of f s) d.equal
    × Every (λ f. of f t ≤ of f s) d.no_larger
    × Every (λ f. of f s ≤ of f t) d.no_smaller

-- a row says enough: behind any past and at any word, its rule is kept on t where it is kept on s, if t is no stricter to it
abbrev pub Suffices : Dependence → Type 0
Suffices d = (s t : Timing) (p : Past) (w : ℕ) → NoStricter d s t → d.rule s p w ≡ false → d.rule t p w ≡ false

-- some timing on which the words are accepted, and than which t is no stricter to the rule of a row
pub record Witness (t : Timing) (words : List ℕ) (d : Dependence) : Type 0 where
  pub timing : Timing
  pub no_stricter : NoStricter d timing t
  pub passes : judge timing words ≡ accepted

-- the theorem
pub record Monotone : Type 0 where
  -- the table is of the published rules: of each, in their order
  pub whole : map (λ d. d.rule) dependences ≡ rules
  -- each row says enough
  pub kept : Every Suffices dependences
  -- so a trace that for each rule has a witness is accepted; it need not be one timing for all
  pub passes : (t : Timing) (words : List ℕ) → Every (Witness t words) dependences → judge t words ≡ accepted
