-- No listed node is NaN. If every used node is finite and within 1,024 mm either way, and the pieces have at most 60
-- corners, on the sheet, and snap points in that range, then every node that the pieces add is finite and within 1,024 mm
-- too, and so every used node still is: after each attempt, each piece (`subdivide-ranged`) and any number of pieces,
-- also where one fails (`pieces-ranged`, `pieces_in_range`).
use Prim.Native.Nat.{ℕ, zero, suc, ◌%◌, ◌≤◌, ◌<◌}
use native.Mathlib.Nat.{le_refl, mod-lt}
use native.Mathlib.Omega.{arith}
use mathlib.Core.Path.{◌≡◌, refl, sym, ap, subst}
use mathlib.Core.Bool.{Bool, true, false, cond}
use mathlib.Core.List.{List}
use lib.ListN.{length, get_or}
use lib.Ieee.{Float, binary64, of_int, round}
use Rattle.laws.specs.Double.{nat, ◌+f◌, ◌/f◌}
use Rattle.laws.specs.Sums.{sum_to}
use Rattle.laws.specs.Within.{Within}
use Rattle.laws.proofs.Mean.{mean_1024}
use Rattle.vector.specs.declared.GridPoint.{GridPoint}
use Rattle.vector.specs.declared.Point.{Point}
use Rattle.vector.specs.Grid.{origin}
use Rattle.vector.specs.Plane.{in_mm}
use Rattle.marks.specs.declared.EdgeMark.{EdgeMark}
use Rattle.marks.specs.declared.EdgeMark.TheVariants.{Straight, Snap}
use Rattle.marks.specs.Part.{Part, no_part}
use Rattle.nodes.specs.Growth.{Grown, InRange, EachNode}
use Rattle.nodes.proofs.Growth.{grown_refl, grown_trans, grown-each, add_nodes-grown, add_nodes-number}
use Rattle.quads.specs.Quads.{middle, too_far, edge_middle, total, mean}
use Rattle.cells.specs.Cells.{attempt, subdivide}
use Rattle.cells.specs.Pieces.{Outcome, onward, pieces_to}
use Rattle.cells.specs.Stages.{corners, end, mark_at, straight, first_nodes, nodes_of}
use Rattle.cells.specs.Claims.{ValidPiece}
use Rattle.cells.proofs.Attempts.{attempt-grown, subdivide-grown, onward-grown}
use Rattle.vector.proofs.Sheet.{point_in_lem, middle_in_lem}

-- ---- a mean
total-is : (c : ℕ → Float) (n : ℕ) → total c n ≡ sum_to binary64 c n
unfolding total sum_to of_int round
total-is c zero = refl
total-is c (suc n) = ap (λ (z : Float). z +f c n) (total-is c n)

pub mean-ranged : (a : ℕ → Point) (n : ℕ) → 0 < n → n ≤ 60 → ((i : ℕ) → i < n → InRange (a i)) → InRange (mean a n)
unfolding mean
mean-ranged a n h k f = (coordinate (λ i. (a i).x) (λ i l. (f i l).0), coordinate (λ i. (a i).y) (λ i l. (f i l).1))
  where
    coordinate : (c : ℕ → Float) → ((i : ℕ) → i < n → Within 1024 (c i)) → Within 1024 (total c n /f nat n)
    coordinate c f = subst (λ (z : Float). Within 1024 (z /f nat n)) (sym (total-is c n)) (mean_1024 c n h k f)

-- ---- an edge's point is its straight middle or the point that it snaps to
pub edge_by : (share : Float) (X : Point → Type 0) (e : EdgeMark) (a b : Point)
    → X (middle a b) → ((q : Point) → e ≡ Snap q → X q) → X (edge_middle share e a b)
unfolding edge_middle
edge_by share X Straight a b h k = h
edge_by share X (Snap q) a b h k = go (too_far share (Snap q) a b)
  where
    go : (f : Bool) → X (cond f (middle a b) q)
    go true = h
    go false = k q refl

pub straight≢snap : (q : Point) → Straight ≡ Snap q → ⊥
straight≢snap q e = let z : ◌≡◌ {A = ℕ} 0 1 = cc in omega arith

-- ---- an attempt, a piece, all pieces
module _ (share : Float) where
  pub attempt-ranged : (ns : List Point) (p : Part) (e : ℕ → EdgeMark) → ValidPiece p
      → ((i : ℕ) (q : Point) → i < length p.points → e i ≡ Snap q → InRange q) → EachNode InRange ns
      → Grown InRange ns (attempt share ns p.points e).nodes
  attempt-ranged ns p e f g a =
      attempt-grown share ns ps e
      (record {
        corner = new;
        middle =
            λ i l.
            edge_by share InRange (e i) (end ns ps i) (end ns ps (suc i))
            (unfold middle in middle_in_lem (end ns ps i) (end ns ps (suc i)) (ends i) (ends (suc i)))
            (λ q u. g i q l u);
        centre = mean-ranged (end ns ps) (length ps) f.some f.few (λ i l. ends i);
      })
    where
      ps : List GridPoint
      ps = p.points

      new : (i : ℕ) → i < length ps → InRange (in_mm (get_or ps i origin))
      new i l = point_in_lem (get_or ps i origin) (f.corner i l)

      ends : (i : ℕ) → InRange (end ns ps i)
      ends i =
          grown-each {P = InRange} ns (corners ns ps).nodes (add_nodes-grown ns (λ i. in_mm (get_or ps i origin)) (length ps) new) a
          (get_or (corners ns ps).numbers (i % length ps) 0)
          (add_nodes-number ns (λ i. in_mm (get_or ps i origin)) (length ps) (i % length ps) (mod-lt i f.some)).low

  pub subdivide-ranged : (ns : List Point) (p : Part) → ValidPiece p → EachNode InRange ns → Grown InRange ns (subdivide share ns p).nodes
  subdivide-ranged ns p f a =
      subdivide-grown share ns p first
      (attempt-ranged (first_nodes share ns p) p straight f (λ i q l e. absurd (straight≢snap q e))
      (grown-each {P = InRange} ns (first_nodes share ns p) first a))
    where
      first : Grown InRange ns (first_nodes share ns p)
      first = attempt-ranged ns p (mark_at p) f f.snap a

  pub pieces-ranged : (ps : List Part) (ns : List Point) (n : ℕ) → ((i : ℕ) → i < n → ValidPiece (get_or ps i no_part)) → EachNode InRange ns
      → Grown InRange ns (nodes_of (pieces_to share ps ns n))
  unfolding pieces_to
  pieces-ranged ps ns zero f a = grown_refl ns
  pieces-ranged ps ns (suc n) f a = more (pieces-ranged ps ns n (λ i k. f i (omega arith)) a)
    where
      more : Grown InRange ns (nodes_of (pieces_to share ps ns n)) → Grown InRange ns (nodes_of (onward share (pieces_to share ps ns n) (get_or ps n no_part)))
      more g =
          grown_trans g (onward-grown share (pieces_to share ps ns n) (get_or ps n no_part)
          (λ ms cs e. subdivide-ranged ms (get_or ps n no_part) (f n (le_refl (suc n)))
          (subst (λ (o : Outcome). EachNode InRange (nodes_of o)) e (grown-each {P = InRange} ns (nodes_of (pieces_to share ps ns n)) g a))))

  pub pieces_in_range : (ps : List Part) (ns : List Point) (n : ℕ) → ((i : ℕ) → i < n → ValidPiece (get_or ps i no_part)) → EachNode InRange ns
      → EachNode InRange (nodes_of (pieces_to share ps ns n))
  pieces_in_range ps ns n f a = grown-each {P = InRange} ns (nodes_of (pieces_to share ps ns n)) (pieces-ranged ps ns n f a) a
