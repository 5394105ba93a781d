-- The rules as tests of timestamps. At a closing word k, which is u + 1, k less a timestamp, which is t + 1, is u − t, and a spacing from
-- t + 1 to u has 1 added to it here.
use Rattle.std.specs.Prelude.{ℕ, zero, suc, ◌+◌, ◌*◌, ◌/◌, Bool, cond, not, ◌&&◌, ◌||◌, List, [], ◌∷◌, get_or, eqb, ltb}
use Rattle.config.specs.declared.Timing.{Timing}
use Rattle.command.specs.Pins.{high, stray_bit}
use Rattle.command.specs.Pairs.{selected, rda, lal, is_refresh}
use Rattle.command.specs.Address.{bank_of}
use Rattle.reading.specs.Reading.{mode_wrong, lane_reserved}
use Rattle.rules.specs.Rules.{lowest}
use Rattle.stamps.specs.Stamps.{is_powered_down, is_exiting}
use Rattle.stamps.specs.declared.Timestamps.{Timestamps}

-- an event at c, if there was one, is less than n clocks before k
abbrev pub near : ℕ → ℕ → ℕ → Bool
near k c n = not (eqb c 0) && ltb k (c + n)

-- the LAL of the last read or write of the bank that a first word names, with four banks (true) or eight
abbrev pub bank_stamp : Bool → Timestamps → ℕ → ℕ
bank_stamp four s first = get_or s.banks (bank_of four first) 0

-- the last clock that rule 3 allows, by D and the first so many places of the last REF words, newest first: if m is the highest place that
-- is not 0, m × D after the REF word there; 0 where all are 0
abbrev pub deadline_by : ℕ → ℕ → List ℕ → ℕ
deadline_by zero refi refs = 0
deadline_by (suc i) refi refs = cond (eqb (get_or refs i 0) 0) (deadline_by i refi refs) (get_or refs i 0 + suc i * refi)

-- the last clock that rule 3 allows, by D and the eight REF words that are kept; 0 where there is none
abbrev pub deadline : ℕ → List ℕ → ℕ
deadline refi refs = deadline_by 8 refi refs

-- rule 3: k is past the last clock that it allows, if there is one
abbrev pub overdue : ℕ → ℕ → Bool
overdue last k = not (eqb last 0) && ltb last k

-- rule 2: PD may not go low at k yet. From t to k is k + 1 less a timestamp, and from the LAL k less it.
abbrev pub must_stay_high : Timing → Timestamps → ℕ → Bool
must_stay_high t s k =
    near (k + 1) s.read t.rc
    || near (k + 1) s.write t.rc
    || near (k + 1) s.mode t.rsc
    || near (k + 1) (get_or s.refs 0 0) t.refc
    || near k s.read (t.cl + t.bl / 2)
    || near k s.write (t.wl + 2)

-- rule 2, by what the word meets
abbrev pub wrongly_low : Timing → Timestamps → ℕ → ℕ → ℕ → Bool
wrongly_low t s k first w =
    not (high 19 w) && (not (is_powered_down first) && (selected first || is_exiting first || selected w || must_stay_high t s k))

-- rules 1 to 3, by rule 2 and the last clock that rule 3 allows
abbrev pub early_breach : Bool → ℕ → ℕ → ℕ → ℕ
early_breach low last k w = lowest 1 (stray_bit w ∷ low ∷ overdue last k ∷ [])

-- rule 13: a wake-up word with CS low
abbrev pub selected_at_exit : ℕ → ℕ → Bool
selected_at_exit first w = (is_powered_down first || is_exiting first) && (high 19 w && selected w)

-- rule 6, for a read or write: first extended and last regular MRS, last but one REF; from the extended MRS word to u are 200 clocks, to
-- k 201
abbrev pub not_ready : ℕ → ℕ → ℕ → ℕ → Bool
not_ready extended regular second_last k = eqb extended 0 || eqb regular 0 || eqb second_last 0 || ltb k (extended + 201)

-- rule 8, by RDA and LAL and the last read and the last write
abbrev pub too_close : Bool → Bool → Timing → ℕ → ℕ → ℕ → Bool
too_close is_rda is_lal t read write k =
    is_lal && (near k read t.rbd || near k write t.rbd)
    || not is_rda && is_lal && near k read (t.rwd + 1)
    || is_rda && is_lal && near k write (t.wrd + 1)

-- rule 11, by RDA and LAL and the last read and the last write
abbrev pub busy : Bool → Bool → Timing → ℕ → ℕ → ℕ → Bool
busy is_rda is_lal t read write k =
    not is_lal && (near k read t.rc || near k write t.rc)
    || is_rda && not is_lal && near k read (t.cl + t.bl / 2 + 1)
    || is_rda && not is_lal && near k write (t.wl + t.bl / 2 + 1)

-- rules 4 to 12
abbrev pub closing_breach : Timing → Timestamps → ℕ → ℕ → ℕ → ℕ
closing_breach t s k first second =
    lowest 4
    (mode_wrong t first second
    ∷ lane_reserved t first second
    ∷ (lal second && not_ready s.extended s.regular (get_or s.refs 1 0) k)
    ∷ (lal second && near k (bank_stamp t.four s first) t.rc)
    ∷ too_close (rda first) (lal second) t s.read s.write k
    ∷ near k s.mode t.rsc
    ∷ near k (get_or s.refs 0 0) t.refc
    ∷ busy (rda first) (lal second) t s.read s.write k
    ∷ (is_refresh first second && near k (get_or s.refs 7 0) t.window)
    ∷ [])

-- the lowest of rules 1 to 3 at a word, by what it meets
abbrev pub early_at : Timing → Timestamps → ℕ → ℕ → ℕ → ℕ
early_at t s k first w = early_breach (wrongly_low t s k first w) (deadline t.refi s.refs) k w

-- the lowest breach at a word, by what it meets
abbrev pub word_breach : Timing → Timestamps → ℕ → ℕ → ℕ → ℕ
word_breach t s k first w =
    let early = early_at t s k first w in
    cond (eqb early 0) (cond (selected first) (closing_breach t s k first w) (cond (selected_at_exit first w) 13 0)) early
