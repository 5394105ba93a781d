-- What a quick look at a word goes by.
use Rattle.std.specs.Prelude.{ℕ, ◌+◌, ◌/◌, ◌^◌, ◌≤◌, ◌<◌, List, ◌≡◌, false, get_or}
use Rattle.stamps.specs.Stamps.{asleep}
use Rattle.basics.specs.Numbers.{limit}
use Rattle.config.specs.declared.Timing.{Timing}
use Rattle.command.specs.Pairs.{desl}
use Rattle.rules.specs.Breaches.{near, deadline, overdue, not_ready, word_breach}
use Rattle.stamps.specs.declared.Timestamps.{Timestamps}
use Rattle.bytecheck.specs.Passed.{next, Passed}
use Rattle.stamps.specs.declared.Kept.{Kept}

-- a read or write that closes at k breaches none of rules 6, 9 and 10
pub record Settled (t : Timing) (s : Timestamps) (k : ℕ) : Type 0 where
  pub ready : not_ready s.extended s.regular (get_or s.refs 1 0) k ≡ false
  pub after_mode : near k s.mode t.rsc ≡ false
  pub after_refresh : near k (get_or s.refs 0 0) t.refc ≡ false

-- at every clock of a trace from this one on, a read or write that closes there breaches none of rules 6, 9 and 10
abbrev pub SettledFrom : Timing → Timestamps → ℕ → Type 0
SettledFrom t s from = (k : ℕ) → k ≤ limit → from ≤ k → Settled t s k

-- rule 3 is kept before `end`
abbrev pub InTime : Timing → Timestamps → ℕ → Type 0
InTime t s end = (k : ℕ) → k < end → overdue (deadline t.refi s.refs) k ≡ false

-- a word that is `top` without its `shift` lowest bits breaches nothing and changes nothing, whatever is kept of the past, if rule 3 is
-- kept there
abbrev pub Quiet : ℕ → ℕ → ℕ → Type 0
Quiet first shift top =
    (t : Timing) (s : Timestamps) (k w : ℕ) → w / 2 ^ shift ≡ top → overdue (deadline t.refi s.refs) k ≡ false
    → let p : Kept = record { clock = k; met = first; stamps = s } in
    (word_breach t s k first w ≡ 0) × (record { clock = k + 1; met = first; stamps = s } ≡ next t.four p w)

-- the words from clock k to j do, in every state in which such words do
abbrev pub RunPassed : ℕ → ℕ → ℕ → List ℕ → ℕ → ℕ → Type 0
RunPassed shift top end words k j =
    (first : ℕ) → Quiet first shift top → (t : Timing) (s : Timestamps) → InTime t s end
    → Passed t words (record { clock = k; met = first; stamps = s }) (record { clock = j; met = first; stamps = s })

-- the place at a clock where nothing is met
abbrev pub idle_at : ℕ → Timestamps → Kept
idle_at k s = record { clock = k; met = desl; stamps = s }

-- the words from clock k to j lead there again
abbrev pub IdlePassed : Timing → Timestamps → ℕ → List ℕ → ℕ → ℕ → Type 0
IdlePassed t s end words k j = InTime t s end → Passed t words (idle_at k s) (idle_at j s)

-- they lead from asleep to asleep
abbrev pub LowPassed : Timing → Timestamps → List ℕ → ℕ → ℕ → Type 0
LowPassed t s words k j =
    let at : ℕ → Kept = λ k. record { clock = k; met = asleep; stamps = s } in
    Passed t words (at k) (at j)
