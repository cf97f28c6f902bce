-- Claim: a list of 80,000 bytes holds the text of every ring of at most 60 points and 124 cells, and one of 256 that of every node; a lead line of at most
-- 60 points has 3,275 bytes.
use Prim.Native.Nat.{ℕ, zero, suc, ◌+◌, ◌*◌, ◌/◌, ◌≤◌}
use mathlib.Core.Path.{◌≡◌}
use mathlib.Core.Bool.{Bool, true, false, cond}
use mathlib.Core.List.{List, [], ◌∷◌, ◌++◌}
use native.Mathlib.Omega.{arith}
use lib.ListN.{length, length-append}
use lib.Dec.{eqb}
use lib.IntN.{ℤ}
use lib.Ieee.{Float}
use borrow.Author.Tests.{ne_eqb}
use Rattle.text.specs.Text.{bytes, slots}
use Rattle.table.specs.declared.Row.{Row}
use Rattle.svg.specs.Place.{point_place}
use Rattle.svg.specs.Form.{formed, takes}
use Rattle.svg.proofs.Forms.{length-formed}
use Rattle.scene.specs.declared.Spot.{Spot}
use Rattle.scene.specs.declared.Quad.{Quad}
use Rattle.scene.specs.Scene.{cell_text, half_text, snapped, snap_text, quad_of, quad_text, quads_text, placed, points_text, lead_text}
use Rattle.scene.specs.Scene.{outline_text, divided_text, halfway, refused_text, ring_text, dot_text, node_text, most_ring, most_node}

-- ---- on a rim or not
module _ (rim : Bool) (a b : Spot) where
  pub half-rim : rim ≡ true → formed (bytes "<path class='rim' d='M@ @L@ @'/>\n") (a.x ∷ a.y ∷ b.x ∷ b.y ∷ []) ≡ half_text rim a b
  unfolding half_text
  half-rim e = rw e

  pub half-cut : rim ≡ false → formed (bytes "<path class='cut' d='M@ @L@ @'/>\n") (a.x ∷ a.y ∷ b.x ∷ b.y ∷ []) ≡ half_text rim a b
  unfolding half_text
  half-cut e = rw e

  half_length : length (half_text rim a b) ≤ 133
  unfolding half_text bytes slots takes
  half_length = go rim
    where
      ns : List ℕ
      ns = a.x ∷ a.y ∷ b.x ∷ b.y ∷ []

      go : (t : Bool) → length (formed (cond t (bytes "<path class='rim' d='M@ @L@ @'/>\n") (bytes "<path class='cut' d='M@ @L@ @'/>\n")) ns) ≤ 133
      go true = length-formed (bytes "<path class='rim' d='M@ @L@ @'/>\n") ns
      go false = length-formed (bytes "<path class='cut' d='M@ @L@ @'/>\n") ns

cell-length : (a b c d : Spot) → length (cell_text a b c d) ≤ 249
unfolding cell_text bytes slots takes
cell-length a b c d = length-formed (bytes "<polygon class='cell' points='@,@ @,@ @,@ @,@'/>\n") (a.x ∷ a.y ∷ b.x ∷ b.y ∷ c.x ∷ c.y ∷ d.x ∷ d.y ∷ [])

-- ---- the sign of a snapped middle
module _ (q : Quad) where
  abbrev sign : List ℕ
  sign = formed (bytes "<circle class='snapped' cx='@' cy='@' r='.5em'/>\n") (q.behind.x ∷ q.behind.y ∷ [])

  pub snap-sign : snapped q ≡ true → sign ≡ snap_text q
  unfolding snap_text
  snap-sign e = rw e

  snap-length : length (snap_text q) ≤ 99
  unfolding snap_text bytes slots takes
  snap-length = go (snapped q)
    where
      go : (t : Bool) → length (cond t sign []) ≤ 99
      go true = length-formed (bytes "<circle class='snapped' cx='@' cy='@' r='.5em'/>\n") (q.behind.x ∷ q.behind.y ∷ [])
      go false = omega arith

quad_length : (q : Quad) → length (quad_text q) ≤ 614
unfolding quad_text
quad_length q =
    rw (length-append, length-append, length-append)
    (omega (
      arith,
      cell-length q.centre q.ahead q.corner q.behind,
      half_length q.first q.corner q.ahead,
      half_length q.second q.corner q.behind,
      snap-length q,
    ))

quads-length : (l : List Float) (rs cs : List ℕ) (n : ℕ) → length (quads_text l rs cs n) ≤ 614 * n
unfolding quads_text
quads-length l rs cs zero = omega arith
quads-length l rs cs (suc n) = rw length-append (omega (arith, quads-length l rs cs n, quad_length (quad_of l rs cs n)))

placed-length : (x y : ℕ) → length (placed x y) ≤ 54
unfolding placed bytes slots takes
placed-length x y = length-formed (bytes "@,@ ") (x ∷ y ∷ [])

points-length : (ps : List ℤ) (n : ℕ) → length (points_text ps n) ≤ 54 * n
unfolding points_text
points-length ps zero = omega arith
points-length ps (suc n) = rw length-append (omega (arith, points-length ps n, placed-length (point_place ps (n * 2)) (point_place ps (n * 2 + 1))))

-- ---- a lead line
module _ (ps : List ℤ) (count : ℕ) where
  abbrev lead_line : List ℕ
  lead_line = formed (bytes "<polyline class='lead' points='") [] ++ points_text ps count ++ formed (bytes "'/>\n") []

  pub lead_some : (count ≡ 0 → ⊥) → lead_line ≡ lead_text ps count
  unfolding lead_text
  lead_some e = rw (ne_eqb count 0 e)

  pub lead_length : count ≤ 60 → length (lead_text ps count) ≤ 3275
  unfolding lead_text bytes slots takes
  lead_length h = go (eqb count 0)
    where
      go : (t : Bool) → length (cond t [] lead_line) ≤ 3275
      go true = omega arith
      go false =
          rw (length-append, length-append) (omega (
            arith,
            length-formed (bytes "<polyline class='lead' points='") [],
            points-length ps count,
            length-formed (bytes "'/>\n") [],
          ))

module _ (rim : Bool) (p : Spot) (n : ℕ) where
  abbrev inside_dot : List ℕ
  inside_dot =
      formed (bytes "<g class='inside' transform='matrix(.01 0 0 -.01 @ @)'><circle r='.22em'/><text x='.3em' y='-.3em'>#</text></g>\n")
      (p.x ∷ p.y ∷ n ∷ [])

  abbrev rim_dot : List ℕ
  rim_dot =
      formed (bytes "<g class='node' transform='matrix(.01 0 0 -.01 @ @)'><circle r='.22em'/><text x='.3em' y='-.3em'>#</text></g>\n")
      (p.x ∷ p.y ∷ n ∷ [])

  inside-length : length inside_dot ≤ most_node
  unfolding bytes slots takes
  inside-length =
      let h = length-formed (bytes "<g class='inside' transform='matrix(.01 0 0 -.01 @ @)'><circle r='.22em'/><text x='.3em' y='-.3em'>#</text></g>\n")
      (p.x ∷ p.y ∷ n ∷ []) in
      omega (arith, h)

  rim-length : length rim_dot ≤ most_node
  unfolding bytes slots takes
  rim-length =
      let h = length-formed (bytes "<g class='node' transform='matrix(.01 0 0 -.01 @ @)'><circle r='.22em'/><text x='.3em' y='-.3em'>#</text></g>\n")
      (p.x ∷ p.y ∷ n ∷ []) in
      omega (arith, h)

  dot-length : length (dot_text rim p n) ≤ most_node
  unfolding dot_text
  dot-length = go rim
    where
      go : (t : Bool) → length (formed (cond t
          (bytes "<g class='node' transform='matrix(.01 0 0 -.01 @ @)'><circle r='.22em'/><text x='.3em' y='-.3em'>#</text></g>\n")
          (bytes "<g class='inside' transform='matrix(.01 0 0 -.01 @ @)'><circle r='.22em'/><text x='.3em' y='-.3em'>#</text></g>\n")) (p.x ∷ p.y ∷ n ∷ []))
          ≤ most_node
      go true = rim-length
      go false = inside-length

pub node-length : (l : List Float) (rs : List ℕ) (i : ℕ) → length (node_text l rs i) ≤ most_node
unfolding node_text
node-length l rs i = dot-length _ _ _

-- ---- a ring
module _ (n : ℕ) (ps : List ℤ) (count : ℕ) (h : count ≤ 60) where
  divided-length : (corners cuts : ℕ) (l : List Float) (rs cs : List ℕ) → length cs ≤ 496 → length (divided_text n corners cuts ps count l rs cs) ≤ most_ring
  unfolding divided_text outline_text bytes slots takes
  divided-length corners cuts l rs cs k =
      let ns : List ℕ = n ∷ corners ∷ cuts ∷ [] in
      let a : length (formed (bytes "<g class='ring'><title>ring #: corners #, cuts #</title>\n<polygon class='outline' points='") ns) ≤ 165 =
      length-formed (bytes "<g class='ring'><title>ring #: corners #, cuts #</title>\n<polygon class='outline' points='") ns in
      let b : length (formed (bytes "'/>\n") []) ≤ 4 = length-formed (bytes "'/>\n") [] in
      let d : length (formed (bytes "</g>\n") []) ≤ 5 = length-formed (bytes "</g>\n") [] in
      rw (length-append, length-append, length-append, length-append)
      (omega (arith, a, b, d, points-length ps count, quads-length l rs cs (length cs / 4)))

  refused-length : (code corners k : ℕ) → length (refused_text n code corners k ps count) ≤ most_ring
  unfolding refused_text bytes slots takes
  refused-length code corners k =
      let ns : List ℕ = n ∷ code ∷ corners ∷ k ∷ [] in
      let ms : List ℕ = halfway ps count 0 ∷ halfway ps count 1 ∷ code ∷ [] in
      let a : length (formed (bytes "<g class='refused'><title>ring # refused # # #</title>\n<polygon points='") ns) ≤ 172 =
      length-formed (bytes "<g class='refused'><title>ring # refused # # #</title>\n<polygon points='") ns in
      let b : length (formed (bytes "'/>\n<text transform='matrix(.01 0 0 -.01 @ @)'>#</text></g>\n") ms) ≤ 135 =
      length-formed (bytes "'/>\n<text transform='matrix(.01 0 0 -.01 @ @)'>#</text></g>\n") ms in
      rw (length-append, length-append) (omega (arith, a, b, points-length ps count))

-- by its row
pub ring-length : (n : ℕ) (v : Row) (ps : List ℤ) (count : ℕ) → count ≤ 60 → (l : List Float) (rs cs : List ℕ) → length cs ≤ 496
    → length (ring_text n v ps count l rs cs) ≤ most_ring
unfolding ring_text
ring-length n v ps count h l rs cs k = go (eqb v.code 0)
  where
    go : (t : Bool) → length (cond t (divided_text n v.corners v.cuts ps count l rs cs) (refused_text n v.code v.corners v.k ps count)) ≤ most_ring
    go true = divided-length n ps count h v.corners v.cuts l rs cs k
    go false = refused-length n ps count h v.code v.corners v.k
