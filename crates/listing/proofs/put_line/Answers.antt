-- `put_line`: a line has 65 bytes.
use native.Mathlib.Omega.{arith}
use Rattle.listing.proofs.Texts.{line-long}
use Rattle.listing.proofs.put_line.Goals as goal

pub line-requires : goal.line-requires
line-requires c =
    let r = c.requires in
    (r.0, r.1, r.2, r.3, record { fits = omega (arith, line-long c.args.nodes.now c.args.i r.0, r.4) })
