-- The rules (RULES 4) over the whole history of closed pairs. Each word, at its clock k, is held to rules 1 to 3 and 13; a closing word,
-- whose pair began at u = k − 1, also to rules 4 to 12. An earlier pair began at t, so its LAL, MRS or REF stands at t + 1.
use Rattle.std.specs.Prelude.{ℕ, suc, ◌+◌, ◌-◌, ◌*◌, ◌/◌, min, Bool, true, false, cond, not, ◌&&◌, ◌||◌}
use Rattle.std.specs.Prelude.{List, [], ◌∷◌, map, length, get_or, eqb, leb, ltb}
use Rattle.config.specs.declared.Timing.{Timing}
use Rattle.command.specs.Pins.{high, stray_bit}
use Rattle.command.specs.Pairs.{selected, lal, is_read, is_write, is_mode, is_refresh}
use Rattle.command.specs.Address.{bank_of}
use Rattle.reading.specs.Reading.{mode_wrong, lane_reserved}
use Rattle.rules.specs.History.{ClosedPair, idle, powered_down, exiting, Phase, pair, between, Past}

-- a closed pair was a read
abbrev pub was_read : ClosedPair → Bool
was_read p = is_read p.first p.second

-- it was a write
abbrev pub was_write : ClosedPair → Bool
was_write p = is_write p.first p.second

-- it was a read or a write
abbrev pub was_access : ClosedPair → Bool
was_access p = was_read p || was_write p

-- it was a mode
abbrev pub was_mode : ClosedPair → Bool
was_mode p = is_mode p.first p.second

-- it was a refresh
abbrev pub was_refresh : ClosedPair → Bool
was_refresh p = is_refresh p.first p.second

-- it set the regular register: BA0 of its MRS is low (RULES 2.6)
abbrev pub was_regular : ClosedPair → Bool
was_regular p = was_mode p && not (high 14 p.second)

-- it set the extended register: BA0 of its MRS is high (RULES 2.6)
abbrev pub was_extended : ClosedPair → Bool
was_extended p = was_mode p && high 14 p.second

-- some pair of the history has the property: any of them, and not just the last (RULES 4.0)
abbrev pub earlier : (ClosedPair → Bool) → List ClosedPair → Bool
earlier f [] = false
earlier f (p ∷ ps) = f p || earlier f ps

-- the clocks t + 1 of the closing words of the pairs with a property, newest first: MRS and REF words, say
abbrev pub closings : (ClosedPair → Bool) → List ClosedPair → List ℕ
closings f [] = []
closings f (p ∷ ps) = cond (f p) ((p.start + 1) ∷ closings f ps) (closings f ps)

-- the last of a list of clocks, which runs from the newest to the first; 0 where there is none
abbrev pub oldest : List ℕ → ℕ
oldest [] = 0
oldest (k ∷ []) = k
oldest (k ∷ j ∷ ks) = oldest (j ∷ ks)

-- a rule: whether a word breaches it, after a past
abbrev pub Rule : Type 0
Rule = Timing → Past → ℕ → Bool

-- rule 1 (RULES 4.1): a bit above 19 is set
abbrev pub rule1 : Rule
rule1 t p w = stray_bit w

-- too soon after an earlier pair for PD to go low at k (RULES 4.2): from t to k less than RC after a read or write, RSC after a mode or
-- REFC after a refresh; from the LAL at t + 1 to k less than CL + BL / 2 after a read or WL + 2 after a write
abbrev pub too_soon_to_power_down : Timing → List ClosedPair → ℕ → Bool
too_soon_to_power_down t ps k =
    earlier (λ p. was_access p && ltb (k - p.start) t.rc) ps
    || earlier (λ p. was_mode p && ltb (k - p.start) t.rsc) ps
    || earlier (λ p. was_refresh p && ltb (k - p.start) t.refc) ps
    || earlier (λ p. was_read p && ltb (k - (p.start + 1)) (t.cl + t.bl / 2)) ps
    || earlier (λ p. was_write p && ltb (k - (p.start + 1)) (t.wl + 2)) ps

-- rule 2 (RULES 4.2): PD is low, was not so before, and may not go low: a pair is open, a wake-up word is due, CS is low, or it is too soon
abbrev pub rule2 : Rule
rule2 t p w = not (high 19 w) && forbidden p.phase
  where
    forbidden : Phase → Bool
    forbidden (pair first) = true
    forbidden (between idle) = selected w || too_soon_to_power_down t p.pairs p.clock
    forbidden (between powered_down) = false
    forbidden (between exiting) = true

-- rule 3 (RULES 4.3): m is the number of REF words before k, but at most eight; m is at least 1, and k less the m-th last of them exceeds
-- m × D
abbrev pub rule3 : Rule
rule3 t p w =
    let refs = closings was_refresh p.pairs in
    let m = min (length refs) 8 in
    leb 1 m && ltb (m * t.refi) (p.clock - get_or refs (m - 1) 0)

-- rule 4 (RULES 4.4): an MRS with a wrong field
abbrev pub rule4 : Timing → List ClosedPair → ℕ → ℕ → ℕ → Bool
rule4 t ps u first second = mode_wrong t first second

-- rule 5 (RULES 4.5): a write's LAL with a reserved lane
abbrev pub rule5 : Timing → List ClosedPair → ℕ → ℕ → ℕ → Bool
rule5 t ps u first second = lane_reserved t first second

-- rule 6 (RULES 4.6): a read or write, and before u there is no extended MRS, no regular MRS or no second REF, or u is less than 200
-- after the first extended MRS word. Whatever is closed when a pair opens at u stands before u.
abbrev pub rule6 : Timing → List ClosedPair → ℕ → ℕ → ℕ → Bool
rule6 t ps u first second =
    lal second
    && (not (leb 1 (length (closings was_extended ps)))
    || not (leb 1 (length (closings was_regular ps)))
    || not (leb 2 (length (closings was_refresh ps)))
    || ltb (u - oldest (closings was_extended ps)) 200)

-- rule 7 (RULES 4.7): a read or write too soon after an earlier one of its bank, by the sheet's wiring: from t to u less than RC
abbrev pub rule7 : Timing → List ClosedPair → ℕ → ℕ → ℕ → Bool
rule7 t ps u first second =
    let bank = bank_of t.four in
    lal second && earlier (λ p. was_access p && eqb (bank p.first) (bank first) && ltb (u - p.start) t.rc) ps

-- rule 8 (RULES 4.8): a read or write too soon after an earlier one of any bank: from t to u less than RBD; a write after a read, from
-- its LAL at t + 1 to u less than RWD; a read after a write, from its LAL at t + 1 to u less than WRD
abbrev pub rule8 : Timing → List ClosedPair → ℕ → ℕ → ℕ → Bool
rule8 t ps u first second =
    lal second && earlier (λ p. was_access p && ltb (u - p.start) t.rbd) ps
    || is_write first second && earlier (λ p. was_read p && ltb (u - (p.start + 1)) t.rwd) ps
    || is_read first second && earlier (λ p. was_write p && ltb (u - (p.start + 1)) t.wrd) ps

-- rule 9 (RULES 4.9): any pair too soon after a mode: from t to u less than RSC
abbrev pub rule9 : Timing → List ClosedPair → ℕ → ℕ → ℕ → Bool
rule9 t ps u first second = earlier (λ p. was_mode p && ltb (u - p.start) t.rsc) ps

-- rule 10 (RULES 4.10): any pair too soon after a refresh: from t to u less than REFC
abbrev pub rule10 : Timing → List ClosedPair → ℕ → ℕ → ℕ → Bool
rule10 t ps u first second = earlier (λ p. was_refresh p && ltb (u - p.start) t.refc) ps

-- rule 11 (RULES 4.11): a mode or refresh too soon after a read or write: from t to u less than RC; a mode also from the LAL at t + 1 to
-- u, less than CL + BL / 2 after a read or WL + BL / 2 after a write
abbrev pub rule11 : Timing → List ClosedPair → ℕ → ℕ → ℕ → Bool
rule11 t ps u first second =
    not (lal second) && earlier (λ p. was_access p && ltb (u - p.start) t.rc) ps
    || is_mode first second && earlier (λ p. was_read p && ltb (u - (p.start + 1)) (t.cl + t.bl / 2)) ps
    || is_mode first second && earlier (λ p. was_write p && ltb (u - (p.start + 1)) (t.wl + t.bl / 2)) ps

-- rule 12 (RULES 4.12): a REF word at k = u + 1 with eight REF words or more before it, less than W after the eighth last of them
abbrev pub rule12 : Timing → List ClosedPair → ℕ → ℕ → ℕ → Bool
rule12 t ps u first second =
    let refs = closings was_refresh ps in
    is_refresh first second && (leb 8 (length refs) && ltb (u + 1 - get_or refs 7 0) t.window)

-- a rule that is judged at closing words alone: by the first word of the open pair, at u = k − 1
abbrev pub at_closing : (Timing → List ClosedPair → ℕ → ℕ → ℕ → Bool) → Rule
at_closing rule t p w = by p.phase
  where
    by : Phase → Bool
    by (pair first) = rule t p.pairs (p.clock - 1) first w
    by (between r) = false

-- the word is one of the two wake-up words (RULES 2.8), if PD is high
abbrev pub exit_word : Phase → Bool
exit_word (pair first) = false
exit_word (between idle) = false
exit_word (between powered_down) = true
exit_word (between exiting) = true

-- rule 13 (RULES 4.13): a wake-up word with CS low
abbrev pub rule13 : Rule
rule13 t p w = exit_word p.phase && (high 19 w && selected w)

-- the thirteen in their order: 4 to 12 at each closing word, the others at each word
abbrev pub rules : List Rule
rules =
    rule1
    ∷ rule2
    ∷ rule3
    ∷ at_closing rule4
    ∷ at_closing rule5
    ∷ at_closing rule6
    ∷ at_closing rule7
    ∷ at_closing rule8
    ∷ at_closing rule9
    ∷ at_closing rule10
    ∷ at_closing rule11
    ∷ at_closing rule12
    ∷ rule13
    ∷ []

-- the number of the first test that holds, counted from n on, and so the lowest (RULES 5.1); 0 where none does
abbrev pub lowest : ℕ → List Bool → ℕ
lowest n [] = 0
lowest n (b ∷ bs) = cond b n (lowest (suc n) bs)

-- the breach of the word w after the past p, by a table of rules: its lowest number, or 0
abbrev pub breach_by : List Rule → Timing → Past → ℕ → ℕ
breach_by table t p w = lowest 1 (map (λ rule. rule t p w) table)

-- the breach of the word w after the past p: the lowest number of a published rule that it breaks, or 0
abbrev pub breach_at : Timing → Past → ℕ → ℕ
breach_at t p w = breach_by rules t p w
