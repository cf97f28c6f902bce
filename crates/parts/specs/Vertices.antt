-- A part as the code holds it: corners that are numbers of the ring's points and of the marks of its edges; and what the functions over them give.
use Rattle.std.specs.Prelude.{ℕ, ◌+◌, ◌-◌, ◌%◌, List, cond, ltb, length, get_or}
use lib.Dec.{lit<}
use Rattle.laws.specs.Table.{tab}
use Rattle.vector.specs.declared.GridPoint.{GridPoint}
use Rattle.vector.specs.Grid.{origin}
use Rattle.vector.specs.Rings.{most_points}
use Rattle.marks.specs.declared.EdgeMark.{EdgeMark}
use Rattle.marks.specs.declared.EdgeMark.TheVariants.{Straight}
use Rattle.marks.specs.Part.{Part}
use Rattle.parts.specs.declared.list.Vertex.{Vertex}
use Rattle.parts.specs.declared.list.RingPart.{RingPart}

abbrev pub no_vertex : Vertex
no_vertex = record { at = 0; edge = 0; below = lit< tt }

-- the number of a straight edge: the first that is no edge of the ring's
abbrev pub straight_number : ℕ
straight_number = most_points

-- what a place holds before a corner is put there
abbrev pub blank : Vertex
blank = record { at = 0; edge = straight_number; below = lit< tt }

abbrev pub vertex : List Vertex → ℕ → Vertex
vertex vs i = get_or vs i no_vertex

-- the point of corner i, of the ring's points; and the mark of the edge that starts there, of the ring's marks: beyond them it is straight
abbrev pub corner_point : List GridPoint → List Vertex → ℕ → GridPoint
corner_point ring vs i = get_or ring (vertex vs i).at origin

abbrev pub edge_at : List EdgeMark → List Vertex → ℕ → EdgeMark
edge_at es vs i = get_or es (vertex vs i).edge Straight

-- the part of the first m corners
abbrev pub part_of : List GridPoint → List EdgeMark → List Vertex → ℕ → Part
part_of ring es vs m = record { points = tab (corner_point ring vs) m; edges = tab (edge_at es vs) m }

-- the points of the corners of a part of a ring, and the part with the marks of the ring's edges
abbrev pub corner_points : RingPart → List GridPoint
corner_points p = tab (corner_point p.ring.now p.corners.now) (length p.corners.now)

abbrev pub part_with : RingPart → List EdgeMark → Part
part_with p es = part_of p.ring.now es p.corners.now (length p.corners.now)

abbrev pub straight : Vertex → Vertex
straight c = record { at = c.at; edge = straight_number; below = c.below }

-- corner i of the m that are counted from corner v of n, the last edge straight
unfoldable pub closing : List Vertex → ℕ → ℕ → ℕ → ℕ → Vertex
closing vs n v m i = cond (ltb i (m - 1)) (vertex vs ((v + i) % n)) (straight (vertex vs ((v + i) % n)))

-- corner i of m that are counted back from the last, the last edge straight
unfoldable pub backward : List Vertex → ℕ → ℕ → Vertex
backward vs m i =
    let c = vertex vs (m - 1 - i) in
    cond (ltb i (m - 1)) (record { at = c.at; edge = (vertex vs (m - 2 - i)).edge; below = c.below }) (straight c)
