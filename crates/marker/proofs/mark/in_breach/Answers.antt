-- Piece by piece.
use Rattle.std.proofs.Common.{[], ◌∷◌, arith}
use Rattle.line.specs.Text.{decimal}
use Rattle.line.proofs.Digits.{decimal-length}
use Rattle.marker.specs.Mark.{breach_text}
use Rattle.marker.proofs.Written.{five_pieces}
use Rattle.marker.proofs.mark.in_breach.Goals as goal

pub returns : goal.returns
returns c =
    five_pieces
    breach_text
    (decimal c.args.clock)
    (32 ∷ [])
    (decimal c.args.number)
    (10 ∷ [])
    (omega (arith, decimal-length c.args.clock, decimal-length c.args.number))
    c.empty.ensures
    c.piece.ensures
    c.number.ensures
    c.push.ensures
    c.number-2.ensures
    c.push-2.ensures
