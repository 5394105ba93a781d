-- An accepted offer, behind which the calls have come as far as before it, with one more request that has not opened; the start; and what a
-- list's end is asked: how many have not opened, and that none of them has passed its bound.
use Prim.Native.Nat.{ℕ, ◌+◌, ◌≤◌, ◌<◌}
use mathlib.Core.Path.{◌≡◌, refl, sym, ◌∙◌, ap}
use mathlib.Core.Bool.{true}
use mathlib.Core.List.{List, [], ◌∷◌, ◌++◌, map-append, append_assoc}
use native.Mathlib.Omega.{arith}
use native.Mathlib.Nat.{le_refl}
use lib.ListN.{length, length-map}
use Rattle.config.specs.declared.Timing.{Timing}
use Rattle.writing.specs.Writing.{request_fits}
use Rattle.command.specs.declared.operation.Request.{Request}
use Rattle.model.specs.Laid.{Course, start, leave, queued}
use Rattle.rules.specs.Turns.{request_of}
use Rattle.model.proofs.Figures.{Figures}
use Rattle.model.proofs.Places.{only, only_append}
use Rattle.model.proofs.Turn.{pair_at}
use Rattle.model.proofs.Phases.{begin}
use Rattle.model.proofs.Prompt.{Awaited}
use Rattle.model.proofs.Choice.{Kind, open_more, leave-more, leave-length}
use Rattle.model.proofs.Going.{at_rest, Going, between, within}
use Rattle.model.proofs.Fulfilled.{bounds_of, After, queue-after, after_mono}
use Rattle.model.proofs.Unopened.{bound, queue-offer}

module _ (t : Timing) (f : Figures t) (g : Kind t) where
  -- an accepted offer, before which at most w others open
  pub offer_goes : (c : Course) (xs : List Awaited) (r : Request) (n w : ℕ) → request_fits t r ≡ true → n ≤ w → w < 24 → Going t f g c xs
      → Going t f g (queued c r) (xs ++ (record { request = r; rank = n; bound = bound t c.past.clock w } ∷ []))
  offer_goes c xs r n w h low few (between b) =
      let x : Awaited = record { request = r; rank = n; bound = bound t c.past.clock w } in
      let k = b.clock in
      between
      (record {
        pairs = b.pairs;
        clock = k;
        place = b.place;
        at = ap (λ c. queued c r) b.at ∙ ap (at_rest k b.pairs b.place) (sym (map-append (λ x. x.request) xs (x ∷ [])));
        ordered = b.ordered;
        phase = b.phase;
        queue = rw b.at (queue-offer t f b.pairs k k w b.ordered (le_refl k) (omega arith) few xs r n low h b.queue);
      })
  offer_goes c xs r n w h low few (within p) =
      let x : Awaited = record { request = r; rank = n; bound = bound t c.past.clock w } in
      let o = p.operation in
      let u = p.start in
      let rs = p.waiting in
      let qs = pair_at t u o ∷ p.pairs in
      let stay = leave o p.place rs in
      let longer = leave-more o p.place rs (r ∷ []) p.chosen in
      let behind = append_assoc (only g.of (request_of o)) (only g.of stay) (only g.of (r ∷ [])) in
      within
      (record {
        pairs = p.pairs;
        start = u;
        operation = o;
        place = p.place;
        waiting = rs ++ (r ∷ []);
        at = ap (λ c. queued c r) p.at;
        chosen = open_more o p.place rs (r ∷ []) p.chosen;
        ahead = rw (longer, only_append g.of stay (r ∷ []), only_append g.of rs (r ∷ []), ← p.ahead) (sym behind);
        leaves = longer ∙ ap (λ rs. rs ++ (r ∷ [])) p.leaves ∙ sym (map-append (λ x. x.request) xs (x ∷ []));
        ordered = p.ordered;
        fits = p.fits;
        passes = p.passes;
        phase = p.phase;
        queue =
            rw p.at
            (queue-offer t f qs (u + 2) (u + 1) w (omega arith, p.ordered) (omega arith) (omega arith) few xs r n low h p.queue);
      })

  pub start_goes : Going t f g start []
  start_goes =
      between
      (record {
        pairs = [];
        clock = 0;
        place = 0;
        at = refl;
        ordered = tt;
        phase = begin refl refl;
        queue = record { fit = tt; near = tt; punctual = tt };
      })

  -- as many have not opened as wait, or one less
  pub none_more : (c : Course) (xs : List Awaited) → Going t f g c xs → length xs ≤ length c.waiting
  none_more c xs (between b) = rw (b.at, length-map xs (λ x. x.request)) (le_refl (length xs))
  none_more c xs (within w) =
      let same = length-map xs (λ x. x.request) in
      let fewer = leave-length w.operation w.place w.waiting w.chosen in
      let all = ap length w.leaves in
      rw w.at (omega arith)

  -- no bound that is not met yet has been passed
  pub none_passed : (c : Course) (xs : List Awaited) → Going t f g c xs → After (c.past.clock + 1) (bounds_of g.of xs)
  none_passed c xs (between b) = rw b.at (queue-after t g.of b.pairs b.clock xs b.queue)
  none_passed c xs (within w) =
      let u = w.start in
      let after = queue-after t g.of (pair_at t u w.operation ∷ w.pairs) (u + 2) xs w.queue in
      rw w.at (after_mono (u + 1 + 1) (u + 2 + 1) (bounds_of g.of xs) (omega arith) after)
