-- What is copied when one leaves a queue, whatever its entries are: each place from p on has what stood one further on, up to the last
-- counted one, which is made vacant; what lies before it is the first n without the entry at p.
use Prim.Native.Nat.{ℕ, zero, suc, ◌+◌, ◌-◌, ◌≤◌, ◌<◌, min}
use mathlib.Core.Path.{◌≡◌, sym, ◌∙◌, ap}
use mathlib.Core.List.{List, [], ◌∷◌, ◌++◌}
use native.Mathlib.Numerals.{add-one}
use native.Mathlib.Omega.{arith}
use borrow.Author.Tests.{lt-ltb}
use lib.ListN.{length, get_or, set, take, drop, length-take, length-drop}
use Rattle.std.proofs.lemmas.List.{take_min, drop_min}
use lib.Seq.{paste, length_paste_head, drop-cons, set_at}
use Rattle.queue.specs.Place.{without, closed_up}

module _ {A : Type 0} where
  -- the entry at p is left out of the first that are taken
  without-take : (p j : ℕ) (w : List A) → p < length w → without p (take (suc (p + j)) w) ≡ take p w ++ take j (drop (suc p) w)
  without-take p j [] h = absurd (omega arith)
  without-take zero j (x ∷ w) h =
      let z : 0 + j ≡ j = omega arith in
      ap (λ n. take n w) z
  without-take (suc p) j (x ∷ w) h =
      let e : suc p + j ≡ suc (p + j) = omega arith in
      rw e (ap (λ ys. x ∷ ys) (without-take p j w (omega arith)))

  -- one that is followed by j others
  ended : (v : A) (w : List A) (p j n : ℕ) → suc (p + j) ≡ min n (length w)
      → set (paste w p (drop (suc p) w) j) (p + j) v ≡ closed_up v p n w
  ended v w p j n all =
      let room : j ≤ length (drop (suc p) w) = rw (length-drop (suc p) w) (omega arith) in
      let before = take p w ++ take j (drop (suc p) w) in
      let behind = drop (suc (p + j)) w in
      let head = length_paste_head w p (drop (suc p) w) j (omega arith) room in
      let rest = drop-cons w (p + j) v (omega arith) in
      let stored = set_at before (get_or w (p + j) v) behind v (p + j) head in
      let taken : take n w ≡ take (suc (p + j)) w = sym (take_min n w) ∙ ap (λ k. take k w) (sym all) in
      let dropped : drop n w ≡ behind = sym (drop_min n w) ∙ ap (λ k. drop k w) (sym all) in
      let is = lt-ltb p (length (take n w)) (rw (length-take n w) (omega arith)) in
      rw (is, rest, stored, taken, dropped, without-take p j w (omega arith))

  -- where it is one of the first m, which are all that are counted
  pub closed : (v : A) (w : List A) (p n m : ℕ) → p < m → m ≡ min n (length w)
      → set (paste w p (drop (p + 1) w) (m - (p + 1))) (m - 1) v ≡ closed_up v p n w
  closed v w p n m h all =
      let last : m - 1 ≡ p + (m - suc p) = omega arith in
      rw (last, add-one p) (ended v w p (m - suc p) n (omega arith))
