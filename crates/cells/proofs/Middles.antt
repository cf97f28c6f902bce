-- Both sides of a cut get the same middle, and both attempts at a piece the same start. A straight middle is the same from
-- either end of its edge, bit for bit (`middle_comm`). The second attempt at a piece, over the nodes that the first one
-- left, finds every corner at the node that the first one saw; so its straight middles and its centre are the first
-- one's (`same_start`).
use Prim.Native.Nat.{ℕ, suc, ◌<◌}
use mathlib.Core.Path.{◌≡◌, sym, ap, ap₂, ◌∙◌, fun_ext}
use mathlib.Core.List.{List}
use lib.ListN.{length}
use lib.Ieee.{Float, binary64}
use Rattle.laws.specs.Double.{lit, ◌*f◌}
use Rattle.laws.proofs.Commute.{add_comm_f}
use Rattle.vector.specs.declared.Point.{Point}
use Rattle.marks.specs.Part.{Part}
use Rattle.nodes.specs.Growth.{Grown, Anything}
use Rattle.nodes.proofs.Growth.{grown_refl, grown_trans, add_nodes-grown}
use Rattle.quads.specs.Quads.{middle, mean}
use Rattle.cells.specs.Stages.{corners, end, mark_at, first_nodes}
use Rattle.cells.specs.Claims.{SameStart}
use Rattle.cells.proofs.Attempts.{middles-grown, ends-later}

pub middle_comm : (a b : Point) → middle a b ≡ middle b a
unfolding middle
middle_comm a b = λ i. record { x = lit 5 1 *f add_comm_f binary64 a.x b.x i; y = lit 5 1 *f add_comm_f binary64 a.y b.y i }

pub same_start : (share : Float) (ns : List Point) (p : Part) → 0 < length p.points → SameStart share ns p
same_start share ns p h =
    record {
      corner = corner;
      middle = λ i. ap₂ middle (corner i) (corner (suc i));
      centre = ap (λ (a : ℕ → Point). mean a (length p.points)) (fun_ext corner);
    }
  where
    ms : List Point
    ms = first_nodes share ns p

    -- the corners once more, over what the first attempt left
    first : Grown Anything (corners ns p.points).nodes ms
    first = middles-grown share ns p.points (mark_at p) (λ i l. tt) tt

    again : Grown Anything ms (corners ms p.points).nodes
    again = add_nodes-grown ms _ (length p.points) (λ i l. tt)

    corner : (i : ℕ) → end ms p.points i ≡ end ns p.points i
    corner i =
        ends-later ms (corners ms p.points).nodes p.points h (grown_refl {P = Anything} (corners ms p.points).nodes) i
        ∙ sym (ends-later ns (corners ms p.points).nodes p.points h (grown_trans first again) i)
