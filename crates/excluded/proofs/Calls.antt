-- Both forms promise one equation. At each state its right side computes, and some part of it is another constructor or another number.
use Prim.Native.Nat.{ℕ}
use mathlib.Core.Path.{◌≡◌, sym, ap}
use native.Mathlib.Omega.{arith}
use Rattle.basics.proofs.Outcomes.{refused-value}
use Rattle.controller.specs.declared.Controller.{Controller}
use Rattle.std.specs.Prelude.{Ok}
use Rattle.controller.specs.Steps.{CallAnswer}
use Rattle.model.specs.Traces.{bank0_read}
use Rattle.model.specs.Runs.{offer, tick}
use Rattle.borrowed.specs.Promised.{OfferPromised, TickPromised}
use Rattle.forms.specs.EitherForm.{by_value, borrowed}
use Rattle.excluded.specs.Calls.{Never, begun, full, last, Calls}

no_offer : (s : Controller) (a : CallAnswer) (after : Controller) → (OfferPromised s bank0_read a after → ⊥)
    → Never s (offer bank0_read) a 0 after
no_offer s a after h by_value = h
no_offer s a after h borrowed = h

no_tick : (s : Controller) (a : CallAnswer) (word : ℕ) (after : Controller) → (TickPromised s a word after → ⊥) → Never s tick a word after
no_tick s a word after h by_value = h
no_tick s a word after h borrowed = h

pub calls : Calls
calls =
    record {
      offer_lost = λ a. no_offer begun a begun (λ p. let z : ◌≡◌ {A = ℕ} 0 1 = ap (λ o. o.after.count) p in omega arith);
      offer_twice = λ a. no_offer begun a _ (λ p. let z : ◌≡◌ {A = ℕ} 2 1 = ap (λ o. o.after.count) p in omega arith);
      offer_seventeenth = λ after. no_offer full (Ok tt) after (λ p. refused-value (sym (ap (λ o. o.outcome) p)));
      offer-refused-counted = λ a. no_offer full a _ (λ p. let z : ◌≡◌ {A = ℕ} 17 16 = ap (λ o. o.after.count) p in omega arith);
      tick-stays = λ a w. no_tick begun a w begun (λ p. let z : ◌≡◌ {A = ℕ} 0 1 = ap (λ k. k.after.clock) p in omega arith);
      tick_twice = λ a w. no_tick begun a w _ (λ p. let z : ◌≡◌ {A = ℕ} 2 1 = ap (λ k. k.after.clock) p in omega arith);
      tick-past_the_limit = λ w after. no_tick last (Ok tt) w after (λ p. refused-value (sym (ap (λ k. k.outcome) p)));
      tick-refused-desl = λ a after. no_tick last a 0xC0000 after (λ p. let z : ◌≡◌ {A = ℕ} 0xC0000 0 = ap (λ k. k.word) p in omega arith);
    }
