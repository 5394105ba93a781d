use Rattle.std.proofs.Common.{ℕ, ◌+◌, ◌-◌, ◌*◌, ◌/◌, ◌≤◌, ◌<◌, ◌≡◌, refl, Bool, true, false, not, ◌&&◌, nat_eq, length, rules, arith}
use borrow.Author.Tests.{eqb-false}
use Rattle.command.specs.Pins.{level}
use Rattle.words.proofs.Listed.{words-length}
use Rattle.bytecheck.specs.Passed.{none}
use Rattle.bytecheck.proofs.Passing.{passed_on, passed-onward, passed-inside}
use Rattle.bytecheck.proofs.trace.Trace.skim.Goals as goal

pub loop-tried-init : goal.loop-tried-init
loop-tried-init c =
    let free = c.free_from.ensures in
    record {
      tracked =
          record {
            row = omega arith;
            low = free.1;
            fits = search rules;
            two = refl;
            due = c.in_time-end.ensures.1;
            free = free.0;
          };
      passed = none;
    }

-- fewer words are left, or none is passed in the first turn alone
fewer : (tried : Bool) (from after at count : ℕ) → (tried && nat_eq after from) ≡ false → from ≤ after → after ≤ at
    → (from < at → at ≤ count) → 2 * (count - at) + 0 < 2 * (count - from) + level (not tried)
fewer true from after at count e h l inside =
    let moved = eqb-false after from e in
    let most = inside (omega arith) in
    omega arith
fewer false from after at count e h l inside = omega arith

pub loop-tried-smaller : goal.loop-tried-smaller
loop-tried-smaller c =
    let bytes = c.args.self.bytes.now in
    let from = c.loop-tried.track in
    let on = passed_on c.past_gaps-track.ensures.1 c.past_pairs-track.ensures.1 in
    let by-idle = rw (c.current-stamps.ensures, ← c.from-clock.ensures) at c.past_idle-after.ensures.1 c.loop-tried.invariant.tracked.due in
    fewer c.loop-tried.tried from.clock c.from-clock.result c.past_pairs-track.result.clock (length bytes / 4)
    c.if-tried-clock.false (rw c.from-clock.ensures c.past_idle-after.ensures.0) (passed-onward on)
    (λ h. rw (words-length bytes) at (passed-inside (passed_on by-idle on) h))

pub loop-tried-preserved : goal.loop-tried-preserved
loop-tried-preserved c =
    let on = passed_on c.past_gaps-track.ensures.1 c.past_pairs-track.ensures.1 in
    let by-idle = rw (c.current-stamps.ensures, ← c.from-clock.ensures) at c.past_idle-after.ensures.1 c.loop-tried.invariant.tracked.due in
    record { tracked = c.past_pairs-track.ensures.0; passed = passed_on c.loop-tried.invariant.passed (passed_on by-idle on) }
