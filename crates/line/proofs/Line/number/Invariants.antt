-- The line, with the digits of the powers that are left, is the first one with the number.
use Rattle.std.proofs.Common.{◌≡◌, drop}
use Rattle.line.specs.Lines.{appended}
use Rattle.line.specs.Text.{digits_by, powers, decimal}
use Rattle.line.proofs.Line.number.Given as goal

abbrev pub invariant-loop-power : goal.invariant-loop-power
invariant-loop-power l = appended l.line (digits_by (drop l.power-index powers) l.n) ≡ appended l.initial.line (decimal l.n)
