-- `piece_points`: the part's points, counted from its first corner.
use Rattle.std.proofs.Common.{◌∙◌, arith}
use Rattle.parts.proofs.Pieces.{part-points}
use Rattle.parts.proofs.piece_points.Goals as goal

pub returns : goal.returns
returns c =
    let r = c.rotated_points.ensures in
    let p = c.part.ensures in (
      λ es. r.0 ∙ part-points c.args.pieces.now c.args.i c.requires.0 c.part.result.now p.corners c.args.ring.now es,
      r.1,
      r.2 ∙ p.size.0,
      omega (arith, r.2, p.size.1),
      r.3,
    )
