-- 25 first, and then the verdict's line.
use Rattle.std.proofs.Common.{◌≤◌, ◌/◌, ◌∙◌, ap, length, arith}
use borrow.Author.Tests.{le-leb}
use Rattle.marker.specs.Mark.{line_by}
use Rattle.marker.proofs.mark.line_of.Goals as goal

pub returns : goal.returns
returns c =
    let short : length c.args.bytes.now ≤ 65536 = omega arith in
    let verdict = rw c.institute.ensures at c.check_bytes.ensures in
    let line = c.line_by.ensures.0 ∙ ap (line_by (length c.args.bytes.now / 4)) verdict in
    (rw (le-leb (length c.args.bytes.now) 65536 short) line, c.line_by.ensures.1)
