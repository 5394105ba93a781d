-- The line, with the bytes that are left, is the first one with the piece.
use Rattle.std.proofs.Common.{◌≡◌, drop}
use Rattle.line.specs.Lines.{appended}
use Rattle.line.proofs.Line.piece.Given as goal

abbrev pub invariant-loop-byte : goal.invariant-loop-byte
invariant-loop-byte l = appended l.line (drop l.byte-index l.piece) ≡ appended l.initial.line l.piece
