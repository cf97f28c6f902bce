-- What is drawn of a ring: its outline, one polygon a cell, one line for each half of an edge, a circle about each snapped middle; or its
-- outline greyed with the number that refuses it. Of its lead line, and of a node: a dot and its number. Definitions only.
use Rattle.std.specs.Prelude.{ℕ, zero, suc, ◌+◌, ◌-◌, ◌*◌, ◌/◌, Bool, not, ◌&&◌, ◌||◌, cond, List, [], ◌∷◌, ◌++◌, length, get_or, ltb, eqb, ℤ, Float}
use Rattle.std.specs.Float.{nan}
use Rattle.text.specs.Text.{bytes}
use Rattle.table.specs.declared.Row.{Row}
use Rattle.svg.specs.Place.{place_of, point_place}
use Rattle.svg.specs.Form.{formed}
use Rattle.scene.specs.declared.Spot.{Spot}
use Rattle.scene.specs.declared.Quad.{Quad}

-- where node n is
unfoldable pub spot_of : List Float → ℕ → Spot
spot_of l n = record { x = place_of (get_or l (n * 2) nan); y = place_of (get_or l (n * 2 + 1) nan) }

-- a cell: centre, middle, corner, middle
unfoldable pub cell_text : Spot → Spot → Spot → Spot → List ℕ
cell_text a b c d = formed (bytes "<polygon class='cell' points='@,@ @,@ @,@ @,@'/>\n") (a.x ∷ a.y ∷ b.x ∷ b.y ∷ c.x ∷ c.y ∷ d.x ∷ d.y ∷ [])

-- whether node n is on a ring's rim, by its mark
unfoldable pub on_rim : List ℕ → ℕ → Bool
on_rim rs n = not (eqb (get_or rs n 0) 0)

-- half of an edge, from a corner to the edge's middle: of a ring's edge where that is on a rim, else of a cut
unfoldable pub half_text : Bool → Spot → Spot → List ℕ
half_text rim a b =
    formed (cond rim (bytes "<path class='rim' d='M@ @L@ @'/>\n") (bytes "<path class='cut' d='M@ @L@ @'/>\n"))
    (a.x ∷ a.y ∷ b.x ∷ b.y ∷ [])

-- the corner behind the middle m of the piece with the centre c, in the first i cells of a list: that of the piece's cell which has m before its corner
unfoldable pub follows : List ℕ → ℕ → ℕ → ℕ → Bool
follows cs c m j = eqb (get_or cs (j * 4) 0) c && eqb (get_or cs (j * 4 + 1) 0) m

unfoldable pub followed : List ℕ → ℕ → ℕ → ℕ → ℕ → ℕ
followed cs c m j found = cond (follows cs c m j) (get_or cs (j * 4 + 2) 0) found

unfoldable pub across : List ℕ → ℕ → ℕ → ℕ → ℕ
across cs c m zero = 0
across cs c m (suc j) = followed cs c m j (across cs c m j)

-- a cell of a list of four node numbers a cell, its nodes looked up, and the corner after its own; by its numbers q, and by its place in the list
unfoldable pub quad_with : List Float → List ℕ → List ℕ → List ℕ → Quad
quad_with l rs cs q =
    record {
      centre = spot_of l (get_or q 0 0);
      ahead = spot_of l (get_or q 1 0);
      corner = spot_of l (get_or q 2 0);
      behind = spot_of l (get_or q 3 0);
      next = spot_of l (across cs (get_or q 0 0) (get_or q 3 0) (length cs / 4));
      first = on_rim rs (get_or q 1 0);
      second = on_rim rs (get_or q 3 0);
    }

unfoldable pub quad_of : List Float → List ℕ → List ℕ → ℕ → Quad
quad_of l rs cs i =
    quad_with l rs cs (get_or cs (i * 4) 0 ∷ get_or cs (i * 4 + 1) 0 ∷ get_or cs (i * 4 + 2) 0 ∷ get_or cs (i * 4 + 3) 0 ∷ [])

-- m is off halfway between a and b by more than two ten-thousandths of a mm, more than rounding makes of a middle that is halfway
unfoldable pub off : ℕ → ℕ → ℕ → Bool
off a m b =
    let half = a / 2 + b / 2 in
    ltb 2 (m - half) || ltb 2 (half - m)

-- a middle that has snapped to a lead line is off halfway between its corners: a circle about it
unfoldable pub snapped : Quad → Bool
snapped q = off q.corner.x q.behind.x q.next.x || off q.corner.y q.behind.y q.next.y

unfoldable pub snap_text : Quad → List ℕ
snap_text q =
    cond (snapped q) (formed (bytes "<circle class='snapped' cx='@' cy='@' r='.5em'/>\n") (q.behind.x ∷ q.behind.y ∷ [])) []

-- a cell with the two halves at its corner, and the sign where the second has snapped; and the first i cells
unfoldable pub quad_text : Quad → List ℕ
quad_text q =
    cell_text q.centre q.ahead q.corner q.behind
    ++ half_text q.first q.corner q.ahead
    ++ half_text q.second q.corner q.behind
    ++ snap_text q

unfoldable pub quads_text : List Float → List ℕ → List ℕ → ℕ → List ℕ
quads_text l rs cs zero = []
quads_text l rs cs (suc i) = quads_text l rs cs i ++ quad_text (quad_of l rs cs i)

-- a place in an outline, point i of a ring, and the first i
unfoldable pub placed : ℕ → ℕ → List ℕ
placed x y = formed (bytes "@,@ ") (x ∷ y ∷ [])

abbrev pub point_spot : List ℤ → ℕ → Spot
point_spot ps i = record { x = point_place ps (i * 2); y = point_place ps (i * 2 + 1) }

abbrev pub point_text : List ℤ → ℕ → List ℕ
point_text ps i = placed (point_place ps (i * 2)) (point_place ps (i * 2 + 1))

unfoldable pub points_text : List ℤ → ℕ → List ℕ
points_text ps zero = []
points_text ps (suc i) = points_text ps i ++ point_text ps i

-- a lead line: a line through all points of a ring's chain
unfoldable pub lead_text : List ℤ → ℕ → List ℕ
lead_text ps count =
    cond (eqb count 0) [] (formed (bytes "<polyline class='lead' points='") [] ++ points_text ps count ++ formed (bytes "'/>\n") [])

-- an accepted ring, number n, with its corners after cleaning, its cuts and its first `count` points: the outline, and with its cells
unfoldable pub outline_text : ℕ → ℕ → ℕ → List ℤ → ℕ → List ℕ
outline_text n corners cuts ps count =
    formed (bytes "<g class='ring'><title>ring #: corners #, cuts #</title>\n<polygon class='outline' points='") (n ∷ corners ∷ cuts ∷ [])
    ++ points_text ps count
    ++ formed (bytes "'/>\n") []

unfoldable pub divided_text : ℕ → ℕ → ℕ → List ℤ → ℕ → List Float → List ℕ → List ℕ → List ℕ
divided_text n corners cuts ps count l rs cs =
    outline_text n corners cuts ps count
    ++ quads_text l rs cs (length cs / 4)
    ++ formed (bytes "</g>\n") []

-- refused: its number stands halfway between the first point and the one half round
abbrev pub halfway : List ℤ → ℕ → ℕ → ℕ
halfway ps count k = (point_place ps k + point_place ps (count / 2 * 2 + k)) / 2

abbrev pub label : List ℤ → ℕ → Spot
label ps count = record { x = halfway ps count 0; y = halfway ps count 1 }

unfoldable pub refused_text : ℕ → ℕ → ℕ → ℕ → List ℤ → ℕ → List ℕ
refused_text n code corners k ps count =
    formed (bytes "<g class='refused'><title>ring # refused # # #</title>\n<polygon points='") (n ∷ code ∷ corners ∷ k ∷ [])
    ++ points_text ps count
    ++ formed (bytes "'/>\n<text transform='matrix(.01 0 0 -.01 @ @)'>#</text></g>\n") (halfway ps count 0 ∷ halfway ps count 1 ∷ code ∷ [])

-- a ring by its row
unfoldable pub ring_text : ℕ → Row → List ℤ → ℕ → List Float → List ℕ → List ℕ → List ℕ
ring_text n v ps count l rs cs = cond (eqb v.code 0) (divided_text n v.corners v.cuts ps count l rs cs) (refused_text n v.code v.corners v.k ps count)

-- a node: on the rim of a ring, or inside
unfoldable pub dot_text : Bool → Spot → ℕ → List ℕ
dot_text rim p n =
    formed
    (cond rim
    (bytes "<g class='node' transform='matrix(.01 0 0 -.01 @ @)'><circle r='.22em'/><text x='.3em' y='-.3em'>#</text></g>\n")
    (bytes "<g class='inside' transform='matrix(.01 0 0 -.01 @ @)'><circle r='.22em'/><text x='.3em' y='-.3em'>#</text></g>\n"))
    (p.x ∷ p.y ∷ n ∷ [])

-- node i of a list, and the first i
unfoldable pub node_text : List Float → List ℕ → ℕ → List ℕ
node_text l rs i = dot_text (on_rim rs i) (spot_of l i) i

unfoldable pub nodes_text : List Float → List ℕ → ℕ → List ℕ
nodes_text l rs zero = []
nodes_text l rs (suc i) = nodes_text l rs i ++ node_text l rs i

-- no ring's text is longer
abbrev pub most_ring : ℕ
most_ring = 80000

-- and no node's
abbrev pub most_node : ℕ
most_node = 256
