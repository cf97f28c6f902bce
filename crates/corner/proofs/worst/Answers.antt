use mathlib.Core.Path.{refl}
use native.Mathlib.Omega.{arith}
use Rattle.vector.proofs.Rings as rings
use Rattle.corner.specs.Corner as Corners
use Rattle.corner.proofs.Scan as scan
use Rattle.corner.proofs.worst.Goals as goal

pub loop-i-init : goal.loop-i-init
unfolding Corners.worst_to
loop-i-init c =
    let r = c.args.part.now in (
      omega arith,
      refl,
      scan.by_points r 0 _ _ _ (scan.before-first r c.requires.1)
          (rings.at_place r 0 c.requires.1) (rings.at_following r 0 _ c.next.ensures.0) _ c.corner_at.ensures,
    )
