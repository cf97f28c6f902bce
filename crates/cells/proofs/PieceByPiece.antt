-- "In the order they go out, a piece of k corners has the next k new cells": where all pieces are done, the nodes and the
-- cells that they leave are those that subdivide gives of each piece over the nodes that the one before left, the cells of
-- a piece next to those of the one before; each piece has as many cells as corners, and none of them fails.
use Prim.Native.Nat.{ℕ, zero, suc}
use mathlib.Core.Path.{◌≡◌, refl, sym, ap, ◌∙◌, subst}
use mathlib.Core.Bool.{Bool, true, false, cond}
use mathlib.Core.List.{List, [], ◌∷◌, ◌++◌, append-nil, append_assoc}
use lib.ListN.{length, get_or}
use lib.Dec.{T, eqb, eqb→eq}
use lib.Ieee.{Float}
use Rattle.vector.specs.declared.Point.{Point}
use Rattle.marks.specs.Part.{Part, no_part}
use Rattle.quads.specs.declared.Cell.{Cell}
use Rattle.cells.specs.Cells.{Attempt, subdivide}
use Rattle.cells.specs.Pieces.{Outcome, done, failed, onward, pieces_to, nodes_over, cells_over}
use Rattle.cells.specs.Claims.{CellsPerPiece, Over}
use Rattle.cells.proofs.NewCells.{subdivide-cells}

module _ (share : Float) where
  -- ---- counted from the front: the first i of ps, from an outcome on
  abbrev after : Outcome → List Part → ℕ → Outcome
  after o ps zero = o
  after o ps (suc i) = onward share (after o ps i) (get_or ps i no_part)

  pieces-after : (ps : List Part) (ns : List Point) (i : ℕ) → pieces_to share ps ns i ≡ after (done ns []) ps i
  unfolding pieces_to
  pieces-after ps ns zero = refl
  pieces-after ps ns (suc i) = ap (λ (o : Outcome). onward share o (get_or ps i no_part)) (pieces-after ps ns i)

  after_cons : (o : Outcome) (p : Part) (ps : List Part) (i : ℕ) → after o (p ∷ ps) (suc i) ≡ after (onward share o p) ps i
  after_cons o p ps zero = refl
  after_cons o p ps (suc i) = ap (λ (o : Outcome). onward share o (get_or ps i no_part)) (after_cons o p ps i)

  after-failed : (ns : List Point) (n k : ℕ) (ps : List Part) (i : ℕ) → after (failed ns n k) ps i ≡ failed ns n k
  after-failed ns n k ps zero = refl
  after-failed ns n k ps (suc i) = ap (λ (o : Outcome). onward share o (get_or ps i no_part)) (after-failed ns n k ps i) ∙ (unfold onward in refl)

  -- the same after the cells cs
  abbrev OverFrom : List Point → List Cell → List Part → Outcome → Type 0
  OverFrom ns cs ps (done ms ds) = (ms ≡ nodes_over share ns ps) × (ds ≡ cs ++ cells_over share ns ps) × CellsPerPiece share ns ps
  OverFrom ns cs ps (failed ms n k) = Unit {0}

  over_cons : (ns : List Point) (cs : List Cell) (p : Part) (ps : List Part) → (subdivide share ns p).fails ≡ length p.points
      → (o : Outcome) → OverFrom (subdivide share ns p).nodes (cs ++ (subdivide share ns p).cells) ps o → OverFrom ns cs (p ∷ ps) o
  over_cons ns cs p ps e (done ms ds) h = (
    h.0,
    h.1 ∙ append_assoc cs (subdivide share ns p).cells (cells_over share (subdivide share ns p).nodes ps),
    ((subdivide-cells share ns p).many, e, h.2),
  )
  over_cons ns cs p ps e (failed ms n k) h = tt

  over : (ns : List Point) (cs : List Cell) (ps : List Part) → OverFrom ns cs ps (after (done ns cs) ps (length ps))
  unfolding onward
  over ns cs [] = (refl, sym (append-nil cs), tt)
  over ns cs (p ∷ ps) =
      subst (OverFrom ns cs (p ∷ ps)) (sym (after_cons (done ns cs) p ps (length ps)))
      (go (eqb t.fails (length p.points)) refl (over t.nodes (cs ++ t.cells) ps))
    where
      t : Attempt
      t = subdivide share ns p

      go : (b : Bool) → eqb t.fails (length p.points) ≡ b
          → OverFrom t.nodes (cs ++ t.cells) ps (after (done t.nodes (cs ++ t.cells)) ps (length ps))
          → OverFrom ns cs (p ∷ ps) (after (cond b (done t.nodes (cs ++ t.cells)) (failed t.nodes (length p.points) t.fails)) ps (length ps))
      go true e h =
          over_cons ns cs p ps (eqb→eq t.fails (length p.points) (subst T (sym e) tt)) (after (done t.nodes (cs ++ t.cells)) ps (length ps)) h
      go false e h = subst (OverFrom ns cs (p ∷ ps)) (sym (after-failed t.nodes (length p.points) t.fails ps (length ps))) tt

  over-start : (ns : List Point) (ps : List Part) (o : Outcome) → OverFrom ns [] ps o → Over share ns ps o
  over-start ns ps (done ms ds) h = h
  over-start ns ps (failed ms n k) h = tt

  pub pieces-over : (ps : List Part) (ns : List Point) → Over share ns ps (pieces_to share ps ns (length ps))
  pieces-over ps ns = over-start ns ps (pieces_to share ps ns (length ps)) (subst (OverFrom ns [] ps) (sym (pieces-after ps ns (length ps))) (over ns [] ps))
