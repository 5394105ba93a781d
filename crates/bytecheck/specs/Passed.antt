-- From place to place of a trace by words that breach nothing.
use Rattle.std.specs.Prelude.{ℕ, ◌+◌, ◌<◌, List, ◌≡◌, Bool, length, get_or}
use Rattle.config.specs.declared.Timing.{Timing}
use Rattle.stamps.specs.Stamps.{next_stamps, next_met}
use Rattle.rules.specs.Breaches.{word_breach}
use Rattle.stamps.specs.declared.Kept.{Kept}

-- after a word, with four banks (true) or eight
abbrev pub next : Bool → Kept → ℕ → Kept
next four p w =
    record {
      clock = p.clock + 1;
      met = next_met p.met w;
      stamps = next_stamps four p.stamps p.clock p.met w;
    }

-- the word at place p is there, breaches nothing, and leads to q
pub record Passes (t : Timing) (words : List ℕ) (p q : Kept) : Type 0 where
  pub inside : p.clock < length words
  pub sound : word_breach t p.stamps p.clock p.met (get_or words p.clock 0) ≡ 0
  pub leads : q ≡ next t.four p (get_or words p.clock 0)

-- any number of such words, none included
pub data Passed (t : Timing) (words : List ℕ) : Kept → Kept → Type 0 where
  none : {p : Kept} → Passed t words p p
  more : {p q r : Kept} → Passed t words p q → Passes t words q r → Passed t words p r
