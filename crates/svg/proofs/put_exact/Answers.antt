-- `put_exact`: a minus below the origin, and the distance from it.
use Rattle.svg.proofs.Forms.{exact-is}
use Rattle.text.proofs.Pages.{room_on, wrote_as}
use Rattle.svg.proofs.put_exact.Goals as goal

pub put-requires : goal.put-requires
put-requires c = room_on (exact-is c.args.n c.abs_diff.result c.abs_diff.ensures) c.requires

pub returns : goal.returns
returns c = wrote_as (exact-is c.args.n c.abs_diff.result c.abs_diff.ensures) c.put.ensures
