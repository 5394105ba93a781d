-- The sheet (RULES 1): the range of each number, and the figures that an accepted sheet yields.
use Rattle.std.specs.Prelude.{ℕ, ◌+◌, ◌-◌, ◌/◌, max, Bool, cond, not, ◌&&◌, ◌||◌, List, [], ◌∷◌, get_or, eqb, leb, ltb}
use Rattle.basics.specs.Outcome.{Outcome, value, require}
use Rattle.config.specs.declared.Config.{Config}
use Rattle.config.specs.declared.Timing.{Timing}
use Rattle.config.specs.declared.figures.Figures.{Figures}

-- n is one of a and b
abbrev pub one_of : ℕ → ℕ → ℕ → Bool
one_of a b n = eqb n a || eqb n b

-- n is from low to high, both included
abbrev pub within : ℕ → ℕ → ℕ → Bool
within low high n = leb low n && leb n high

-- grade, CL, BL and organisation are each one that there is (RULES 1.1)
abbrev pub part_fits : Config → Bool
part_fits c = one_of 37 50 c.grade && within 3 5 c.cl && one_of 2 4 c.bl && one_of 16 8 c.organisation

-- the wiring is of eight banks or of four (RULES 1.6)
abbrev pub wiring_fits : Config → Bool
wiring_fits c = one_of 8 4 c.wiring

-- the least periods in picoseconds (RULES 1.2): a row for each grade, a column for each CL
abbrev pub least_periods : List (List ℕ)
least_periods = (5500 ∷ 4500 ∷ 3750 ∷ []) ∷ (6000 ∷ 5500 ∷ 5000 ∷ []) ∷ []

-- the row of a grade
abbrev pub grade_row : ℕ → ℕ
grade_row grade = cond (eqb grade 37) 0 1

-- the entry of a grade and a CL
abbrev pub least_period : ℕ → ℕ → ℕ
least_period grade cl = get_or (get_or least_periods (grade_row grade) []) (cl - 3) 0

-- the period is at least the table's and at most 8500 (RULES 1.1, 1.2)
abbrev pub period_fits : Config → Bool
period_fits c = within (least_period c.grade c.cl) 8500 c.period.0

-- each of the five counts of clocks is in its range (RULES 1.1)
abbrev pub counts_fit : Config → Bool
counts_fit c =
    within 2 7 c.rbd.0
    && within 1 7 c.rwd.0
    && within 1 7 c.wrd.0
    && within 2 15 c.rsc.0
    && within 15 63 c.refc.0

-- at CL 4, REFC is not below 18 (RULES 1.5)
abbrev pub refresh_fits : Config → Bool
refresh_fits c = not (eqb c.cl 4 && ltb c.refc.0 18)

-- RC by CL: the spacing of two reads or writes of one bank (RULES 1.3)
abbrev pub rc_of : ℕ → ℕ
rc_of cl = cond (eqb cl 5) 6 5

-- S, the longest spacing of two reads or writes (RULES 1.3); RWD and WRD count from a LAL, so 1 is added to them
abbrev pub spacing_of : ℕ → ℕ → ℕ → ℕ → ℕ
spacing_of rc rbd rwd wrd = max (max rc rbd) (max (rwd + 1) (wrd + 1))

-- the figures of a sheet (RULES 1.3): wl is WL, refi D, window W and spacing S; and whether it is wired for four banks
abbrev pub derived : Config → Timing
derived c =
    record {
      cl = c.cl;
      bl = c.bl;
      organisation = c.organisation;
      four = eqb c.wiring 4;
      rbd = c.rbd.0;
      rwd = c.rwd.0;
      wrd = c.wrd.0;
      rsc = c.rsc.0;
      refc = c.refc.0;
      rc = rc_of c.cl;
      wl = c.cl - 1;
      refi = 3900000 / c.period.0;
      window = 3200000 / c.period.0 + 1;
      spacing = spacing_of (rc_of c.cl) c.rbd.0 c.rwd.0 c.wrd.0;
    }

-- the figures that a timing holds (RULES 1.3), each under its own name
abbrev pub figures_of : Timing → Figures
figures_of t =
    record {
      cl = t.cl;
      bl = t.bl;
      organisation = t.organisation;
      four = t.four;
      rbd = t.rbd;
      rwd = t.rwd;
      wrd = t.wrd;
      rsc = t.rsc;
      refc = t.refc;
      rc = t.rc;
      wl = t.wl;
      refi = t.refi;
      window = t.window;
      spacing = t.spacing;
    }

-- the figures of a sheet, or refusal 20, 34, 21, 22 or 33, tried in this order (RULES 7.1)
abbrev pub timing_of : Config → Outcome Timing
timing_of c =
    require (part_fits c) 20
    (require (wiring_fits c) 34
    (require (period_fits c) 21
    (require (counts_fit c) 22
    (require (refresh_fits c) 33 (value (derived c))))))

-- sheet E (RULES 1.4)
abbrev pub institute : Config
institute =
    record {
      grade = 37;
      cl = 4;
      bl = 4;
      organisation = 16;
      period = record { 0 = 5000 };
      rbd = record { 0 = 2 };
      rwd = record { 0 = 3 };
      wrd = record { 0 = 1 };
      rsc = record { 0 = 7 };
      refc = record { 0 = 18 };
      wiring = 8;
    }

-- the configuration that eleven numbers make, in the order of RULES 1.1
abbrev pub wired_of : ℕ → ℕ → ℕ → ℕ → ℕ → ℕ → ℕ → ℕ → ℕ → ℕ → ℕ → Config
wired_of grade cl bl organisation period rbd rwd wrd rsc refc wiring =
    record {
      grade = grade;
      cl = cl;
      bl = bl;
      organisation = organisation;
      period = record { 0 = period };
      rbd = record { 0 = rbd };
      rwd = record { 0 = rwd };
      wrd = record { 0 = wrd };
      rsc = record { 0 = rsc };
      refc = record { 0 = refc };
      wiring = wiring;
    }

-- the configuration that the first ten make: without its wiring a sheet has eight banks (RULES 1.6)
abbrev pub config_of : ℕ → ℕ → ℕ → ℕ → ℕ → ℕ → ℕ → ℕ → ℕ → ℕ → Config
config_of grade cl bl organisation period rbd rwd wrd rsc refc = wired_of grade cl bl organisation period rbd rwd wrd rsc refc 8

-- the configuration of a list of eleven numbers in the order of RULES 1.1
abbrev pub sheet_of : List ℕ → Config
sheet_of s =
    wired_of (get_or s 0 0) (get_or s 1 0) (get_or s 2 0) (get_or s 3 0) (get_or s 4 0) (get_or s 5 0) (get_or s 6 0) (get_or s 7 0)
    (get_or s 8 0) (get_or s 9 0) (get_or s 10 0)

-- the eleven numbers of a sheet, in the order of RULES 1.1
abbrev pub numbers_of : Config → List ℕ
numbers_of c =
    c.grade
    ∷ c.cl
    ∷ c.bl
    ∷ c.organisation
    ∷ c.period.0
    ∷ c.rbd.0
    ∷ c.rwd.0
    ∷ c.wrd.0
    ∷ c.rsc.0
    ∷ c.refc.0
    ∷ c.wiring
    ∷ []
