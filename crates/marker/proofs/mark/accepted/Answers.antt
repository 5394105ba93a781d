-- Piece by piece.
use Rattle.std.proofs.Common.{[], ◌∷◌, arith}
use Rattle.line.specs.Text.{decimal}
use Rattle.line.proofs.Digits.{decimal-length}
use Rattle.marker.specs.Mark.{accepted_text}
use Rattle.marker.proofs.Written.{three_pieces}
use Rattle.marker.proofs.mark.accepted.Goals as goal

pub returns : goal.returns
returns c =
    three_pieces
    accepted_text
    (decimal c.args.count)
    (10 ∷ [])
    (omega (arith, decimal-length c.args.count))
    c.empty.ensures
    c.piece.ensures
    c.number.ensures
    c.push.ensures
