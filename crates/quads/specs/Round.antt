-- The cells round a centre, of the nodes of a piece as the code has them. Definitions only.
use Rattle.std.specs.Prelude.{ℕ, ◌<◌, List, length}
use Rattle.quads.specs.declared.Cell.{Cell}
use Rattle.quads.specs.declared.Round.{Round}
use Rattle.quads.specs.Quads.{cells_to}
use Rattle.quads.specs.Flat.{ListedTo}

-- all of them, in order
abbrev pub cells_of : Round → List Cell
cells_of r = cells_to r.centre r.middles.now r.corners.now (length r.middles.now)

-- its numbers are those of the first u nodes
pub record ListedRound (u : ℕ) (r : Round) : Type 0 where
  pub centre : r.centre < u
  pub middles : ListedTo u r.middles.now (length r.middles.now)
  pub corners : ListedTo u r.corners.now (length r.middles.now)
