-- 02, Card 13: "on an empty node list", "The trial lists are empty and have the full reserve". The number is that of every such list, whatever is in its
-- places: so what the trial lists hold decides nothing, and the same ring is refused so on any empty list of the caller.
use Rattle.std.specs.Prelude.{◌-◌, ◌/◌, ◌≤◌, ◌≡◌, length}
use Rattle.limits.specs.Limits.{delivered}
use Rattle.call.specs.Call.{node_reserve, cell_reserve, most_places}
use Rattle.call.specs.Lent.{Lent, divide_lent}
use Rattle.lone_ring.specs.Number.{points, number_of}

-- what the caller lends has an empty node list, as many rim marks as it has places, and the full reserve of the ring
pub record Empty (l : Lent) : Type 0 where
  pub none : l.node_count_of ≡ 0
  pub places : length l.nodes / 2 ≤ most_places
  pub marks : length l.nodes / 2 ≤ length l.rims
  pub stored : l.cell_count_of ≤ length l.cells / 4
  pub nodes : node_reserve delivered (points l.ring) ≤ length l.nodes / 2
  pub cells : cell_reserve delivered (points l.ring) ≤ length l.cells / 4 - l.cell_count_of

-- for a ring of at most 12 points
pub record Anywhere (l : Lent) : Type 0 where
  pub same : points l.ring ≤ 12 → Empty l → (divide_lent delivered l).row.code ≡ number_of l.ring l.chain l.size
