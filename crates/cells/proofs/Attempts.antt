-- A piece only adds to the node list, whether its first attempt holds or a second follows, and so do pieces one after the
-- other, also where one fails: every node that was listed keeps its number and every bit (`subdivide-any`, `pieces-any`).
-- What is proved of the corners, the middles and the centre of each attempt holds of the nodes that are added
-- (`attempt-grown`, `subdivide-grown`, `pieces-grown`). In every later list the corners have the nodes that an attempt
-- saw (`ends-later`).
use Prim.Native.Nat.{ℕ, zero, suc, ◌+◌, ◌%◌, ◌<◌, ◌≤◌}
use native.Mathlib.Nat.{le_refl, mod-lt}
use native.Mathlib.Omega.{arith}
use mathlib.Core.Path.{◌≡◌, refl, sym, ◌∙◌, subst}
use mathlib.Core.Bool.{Bool, true, false, cond, ◌||◌}
use mathlib.Core.List.{List, ◌++◌}
use lib.ListN.{length, get_or}
use lib.Dec.{eqb}
use lib.Ieee.{Float}
use Rattle.laws.proofs.Search.{first-le}
use Rattle.vector.specs.declared.GridPoint.{GridPoint}
use Rattle.vector.specs.declared.Point.{Point}
use Rattle.vector.specs.Grid.{origin}
use Rattle.vector.specs.Plane.{in_mm}
use Rattle.marks.specs.declared.EdgeMark.{EdgeMark}
use Rattle.marks.specs.Part.{Part, no_part}
use Rattle.nodes.specs.Growth.{Grown, Anything, Numbered, node_for}
use Rattle.nodes.proofs.Numbers.{numbered-later, numbered-node}
use Rattle.nodes.proofs.Growth.{grown_refl, grown_trans, add_nodes-grown, add_nodes-number}
use Rattle.quads.specs.declared.Cell.{Cell}
use Rattle.quads.specs.Quads.{edge_middle, mean}
use Rattle.cells.specs.Cells.{Attempt, attempt, subdivide}
use Rattle.cells.specs.Pieces.{Outcome, done, failed, onward, pieces_to}
use Rattle.cells.specs.Stages.{corners, end, middles, centre, mark_at, straight, first_nodes, second_nodes, nodes_of}

module _ (share : Float) where
  -- ---- an attempt
  pub attempt-nodes : (ns : List Point) (ps : List GridPoint) (e : ℕ → EdgeMark) → (attempt share ns ps e).nodes ≡ (centre share ns ps e).nodes
  unfolding attempt
  attempt-nodes ns ps e = refl

  -- what an attempt adds has P, the nodes of its corners being a
  pub record Adds (P : Point → Type 0) (ps : List GridPoint) (e : ℕ → EdgeMark) (a : ℕ → Point) : Type 0 where
    pub corner : (i : ℕ) → i < length ps → P (in_mm (get_or ps i origin))
    pub middle : (i : ℕ) → i < length ps → P (edge_middle share (e i) (a i) (a (suc i)))
    pub centre : P (mean a (length ps))

  -- from the corners on
  pub middles-grown : {P : Point → Type 0} (ns : List Point) (ps : List GridPoint) (e : ℕ → EdgeMark)
      → ((i : ℕ) → i < length ps → P (edge_middle share (e i) (end ns ps i) (end ns ps (suc i)))) → P (mean (end ns ps) (length ps))
      → Grown P (corners ns ps).nodes (attempt share ns ps e).nodes
  middles-grown {P} ns ps e h k =
      subst (Grown P (corners ns ps).nodes) (sym (attempt-nodes ns ps e))
      (grown_trans (add_nodes-grown (corners ns ps).nodes (λ i. edge_middle share (e i) (end ns ps i) (end ns ps (suc i))) (length ps) h)
      (add_nodes-grown (middles share ns ps e).nodes (λ i. mean (end ns ps) (length ps)) 1 (λ i l. k)))

  pub attempt-grown : {P : Point → Type 0} (ns : List Point) (ps : List GridPoint) (e : ℕ → EdgeMark) → Adds P ps e (end ns ps)
      → Grown P ns (attempt share ns ps e).nodes
  attempt-grown ns ps e h =
      grown_trans (add_nodes-grown ns (λ i. in_mm (get_or ps i origin)) (length ps) h.corner) (middles-grown ns ps e h.middle h.centre)

  pub attempt-any : (ns : List Point) (ps : List GridPoint) (e : ℕ → EdgeMark) → Grown Anything ns (attempt share ns ps e).nodes
  attempt-any ns ps e = attempt-grown ns ps e (record { corner = λ i h. tt; middle = λ i h. tt; centre = tt })

  -- ---- a piece leaves what its first attempt left, or what a second one made of that
  pub subdivide_by : (X : List Point → Type 0) (ns : List Point) (p : Part) → X (first_nodes share ns p) → X (second_nodes share ns p)
      → X (subdivide share ns p).nodes
  unfolding subdivide
  subdivide_by X ns p h k = go (eqb t.fails (length p.points) || t.far)
    where
      t : Attempt
      t = attempt share ns p.points (mark_at p)

      go : (b : Bool) → X (cond b t (attempt share t.nodes p.points straight)).nodes
      go true = h
      go false = k

  pub subdivide-grown : {P : Point → Type 0} (ns : List Point) (p : Part) → Grown P ns (first_nodes share ns p)
      → Grown P (first_nodes share ns p) (second_nodes share ns p) → Grown P ns (subdivide share ns p).nodes
  subdivide-grown {P} ns p g h = subdivide_by (Grown P ns) ns p g (grown_trans g h)

  pub subdivide-any : (ns : List Point) (p : Part) → Grown Anything ns (subdivide share ns p).nodes
  subdivide-any ns p = subdivide-grown ns p (attempt-any ns p.points (mark_at p)) (attempt-any (first_nodes share ns p) p.points straight)

  -- ---- the pieces
  pub onward-done : (ns : List Point) (cs : List Cell) (p : Part) → nodes_of (onward share (done ns cs) p) ≡ (subdivide share ns p).nodes
  unfolding onward
  onward-done ns cs p = go (eqb t.fails (length p.points))
    where
      t : Attempt
      t = subdivide share ns p

      go : (b : Bool) → nodes_of (cond b (done t.nodes (cs ++ t.cells)) (failed t.nodes (length p.points) t.fails)) ≡ t.nodes
      go true = refl
      go false = refl

  pub onward-grown : {P : Point → Type 0} (o : Outcome) (p : Part)
      → ((ns : List Point) (cs : List Cell) → o ≡ done ns cs → Grown P ns (subdivide share ns p).nodes) → Grown P (nodes_of o) (nodes_of (onward share o p))
  onward-grown {P} (done ns cs) p h = subst (Grown P ns) (sym (onward-done ns cs p)) (h ns cs refl)
  onward-grown {P} (failed ns n k) p h = unfold onward in grown_refl ns

  pub pieces-grown : {P : Point → Type 0} (ps : List Part) (ns : List Point) (n : ℕ)
      → ((i : ℕ) → i < n → (ms : List Point) (cs : List Cell) → pieces_to share ps ns i ≡ done ms cs
      → Grown P ms (subdivide share ms (get_or ps i no_part)).nodes)
      → Grown P ns (nodes_of (pieces_to share ps ns n))
  unfolding pieces_to
  pieces-grown ps ns zero h = grown_refl ns
  pieces-grown ps ns (suc n) h =
      grown_trans (pieces-grown ps ns n (λ i k. h i (omega arith))) (onward-grown (pieces_to share ps ns n) (get_or ps n no_part) (h n (le_refl (suc n))))

  pub pieces-any : (ps : List Part) (ns : List Point) (n : ℕ) → Grown Anything ns (nodes_of (pieces_to share ps ns n))
  pieces-any ps ns n = pieces-grown ps ns n (λ i k ms cs e. subdivide-any ms (get_or ps i no_part))

  pub pieces-next : (ps : List Part) (ns : List Point) (i : ℕ) → Grown Anything (nodes_of (pieces_to share ps ns i)) (nodes_of (pieces_to share ps ns (suc i)))
  unfolding pieces_to
  pieces-next ps ns i = onward-grown (pieces_to share ps ns i) (get_or ps i no_part) (λ ms cs e. subdivide-any ms (get_or ps i no_part))

  -- from one piece to a later one
  pub pieces-later : (ps : List Part) (ns : List Point) (i d : ℕ)
      → Grown Anything (nodes_of (pieces_to share ps ns i)) (nodes_of (pieces_to share ps ns (d + i)))
  pieces-later ps ns i zero =
      subst (λ (k : ℕ). Grown Anything (nodes_of (pieces_to share ps ns i)) (nodes_of (pieces_to share ps ns k))) (same i)
      (grown_refl (nodes_of (pieces_to share ps ns i)))
    where
      same : (i : ℕ) → i ≡ 0 + i
      same i = omega arith
  pieces-later ps ns i (suc d) =
      subst (λ (k : ℕ). Grown Anything (nodes_of (pieces_to share ps ns i)) (nodes_of (pieces_to share ps ns k))) (next i d)
      (grown_trans (pieces-later ps ns i d) (pieces-next ps ns (d + i)))
    where
      next : (i d : ℕ) → suc (d + i) ≡ suc d + i
      next i d = omega arith

-- ---- in every later list the corners have the nodes that the attempt saw
pub ends-later : {P : Point → Type 0} (ns ms : List Point) (ps : List GridPoint) → 0 < length ps → Grown P (corners ns ps).nodes ms → (i : ℕ)
    → end ns ps i ≡ node_for ms (in_mm (get_or ps (i % length ps) origin))
ends-later {P} ns ms ps h g i = sym (g.same k n.low) ∙ numbered-node (numbered-later g n)
  where
    k : ℕ
    k = get_or (corners ns ps).numbers (i % length ps) 0

    n : Numbered (corners ns ps).nodes (in_mm (get_or ps (i % length ps) origin)) k
    n = add_nodes-number ns (λ i. in_mm (get_or ps i origin)) (length ps) (i % length ps) (mod-lt i h)

-- ---- the cell that fails is one of the piece's, or their number stands for it
pub attempt-fails : (share : Float) (ns : List Point) (ps : List GridPoint) (e : ℕ → EdgeMark) → (attempt share ns ps e).fails ≤ length ps
unfolding attempt
attempt-fails share ns ps e = let z : 0 + length ps ≡ length ps = omega arith in
    subst (λ (n : ℕ). (attempt share ns ps e).fails ≤ n) z (first-le _ (length ps) 0)

pub subdivide-fails : (share : Float) (ns : List Point) (p : Part) → (subdivide share ns p).fails ≤ length p.points
unfolding subdivide
subdivide-fails share ns p = go (eqb t.fails (length p.points) || t.far)
  where
    t : Attempt
    t = attempt share ns p.points (mark_at p)

    go : (b : Bool) → (cond b t (attempt share t.nodes p.points straight)).fails ≤ length p.points
    go true = attempt-fails share ns p.points (mark_at p)
    go false = attempt-fails share t.nodes p.points straight
