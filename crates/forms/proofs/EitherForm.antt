-- Demand 3 holds of calls in either form: both promise the same.
use Prim.Native.Nat.{ℕ}
use mathlib.Core.Path.{◌≡◌, refl, ap, sym, ◌∙◌, subst}
use mathlib.Core.List.{List, [], ◌∷◌, ◌++◌, map}
use lib.ListN.{length}
use Rattle.command.specs.declared.operation.Request.{Request}
use Rattle.controller.specs.States.{fresh}
use Rattle.controller.specs.Steps.{held, CallAnswer, call_outcome, offer_of, tick_of}
use Rattle.model.specs.Runs.{Call, offer, tick, Accepted, Run, called, run_from, if_accepted}
use Rattle.model.specs.Demand3.{Holds}
use Rattle.controller.specs.declared.Controller.{Controller}
use Rattle.model.proofs.Demand3.{demand_3}
use Rattle.forms.specs.EitherForm.{Form, by_value, borrowed, Made, Promised, MadeFrom, collected, collect_from, EitherForm}

offers : (r : Run) (q : Request) (answer : CallAnswer) (word : ℕ) (after : Controller)
    → record { outcome = call_outcome answer; after = after } ≡ offer_of r.controller q
    → collected (offer q) answer word after r ≡ called r (offer q)
offers r q answer word after e =
    let a : Accepted = record { request = q; ticks = length r.words; ahead = length (held r.controller) } in
    ap (λ o. record { words = r.words; accepted = r.accepted ++ if_accepted o.outcome a; controller = o.after }) e

ticks : (r : Run) (answer : CallAnswer) (word : ℕ) (after : Controller)
    → record { outcome = call_outcome answer; word = word; after = after } ≡ tick_of r.controller
    → collected tick answer word after r ≡ called r tick
ticks r answer word after e =
    ap (λ k. record { words = r.words ++ if_accepted k.outcome k.word; accepted = r.accepted; controller = k.after }) e

one : (form : Form) (call : Call) (answer : CallAnswer) (word : ℕ) (after : Controller) (r : Run)
    → Promised form r.controller call answer word after
    → collected call answer word after r ≡ called r call
one by_value (offer q) answer word after r e = offers r q answer word after e
one by_value tick answer word after r e = ticks r answer word after e
one borrowed (offer q) answer word after r e = offers r q answer word after e
one borrowed tick answer word after r e = ticks r answer word after e

collected-from : (r s : Run) (ms : List Made) → r ≡ s → MadeFrom r.controller ms → collect_from r ms ≡ run_from s (map (λ m. m.call) ms)
collected-from r s [] e p = e
collected-from r s (m ∷ ms) e p =
    collected-from (collected m.call m.answer m.word m.after r) (called s m.call) ms
    (one m.form m.call m.answer m.word m.after r p.0 ∙ ap (λ r. called r m.call) e)
    (kept m.call m.answer m.word)
  where
    kept : (call : Call) (answer : CallAnswer) (word : ℕ) → MadeFrom (collected call answer word m.after r).controller ms
    kept (offer q) answer word = p.1
    kept tick answer word = p.1

pub either-form : EitherForm
either-form =
    record {
      some = (refl, (refl, (refl, tt)));
      holds =
          λ c t is ms p.
          let begun : Run = record { words = []; accepted = []; controller = fresh c } in
          subst (Holds t (map (λ m. m.call) ms)) (sym (collected-from begun begun ms refl p))
          (demand_3.holds c t is (map (λ m. m.call) ms));
    }
