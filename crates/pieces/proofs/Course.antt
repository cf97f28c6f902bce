-- The loop over the pieces: what is reached before piece i (`Reached`), that `subdivide` can be called for it (`can`,
-- `cell_room`), and what the turn leads to: the same before the next piece (`go_on`), or the end after a failure
-- (`after-failure`).
use mathlib.Core.Path.{◌≡◌, refl, sym, ap, ◌∙◌, subst, fun_ext}
use mathlib.Core.Bool.{Bool, false}
use mathlib.Core.List.{List, [], ◌++◌, append-nil}
use Prim.Native.Nat.{ℕ, zero, suc, ◌+◌, ◌-◌, ◌*◌, ◌≤◌, ◌<◌}
use native.Mathlib.Nat.{le_refl, le_trans}
use native.Mathlib.Numerals.{add-one}
use native.Mathlib.Omega.{arith}
use borrow.Author.Tests.{eq-eqb, ne_eqb}
use borrow.Rule.Slice.PartMut.{put_mid}
use lib.ListN.{length, get_or, take, drop, replicate, length-append, length-drop, length-replicate}
use lib.Seq.{length-take-le}
use lib.Ieee.{Float}
use Rattle.laws.specs.All.{All}
use Rattle.laws.specs.Bounded.{below}
use Rattle.laws.proofs.Search.{below-given, below-absent}
use Rattle.vector.specs.declared.GridPoint.{GridPoint}
use Rattle.vector.specs.declared.Point.{Point}
use Rattle.marks.specs.declared.EdgeMark.{EdgeMark}
use Rattle.marks.specs.Part.{Part, no_part}
use Rattle.parts.specs.declared.list.PartList.{PartList}
use Rattle.parts.specs.Pieces.{piece_in}
use Rattle.nodes.specs.Growth.{Grown, Anything, InRange, EachNode}
use Rattle.nodes.specs.Flat.{nodes_in, over, Usable}
use Rattle.nodes.specs.declared.nearby.Nearby.{Nearby}
use Rattle.nodes.specs.Nearby.{ValidNearby}
use Rattle.nodes.proofs.Collection.{held-over}
use Rattle.nodes.proofs.Flat.{length_in, in_over, length_over, over-over, over_in}
use Rattle.quads.specs.declared.Cell.{Cell}
use Rattle.cells.specs.declared.Tried.{Tried}
use Rattle.quads.specs.Quads.{no_cell}
use Rattle.cells.specs.Cells.{Attempt, subdivide}
use Rattle.cells.specs.Pieces.{Outcome, done, failed, onward, pieces_to}
use Rattle.cells.specs.Stages.{nodes_of}
use Rattle.cells.specs.Claims.{ValidPiece, corners_to, CellsOf}
use Rattle.cells.specs.Asks.{Ask, of_ring, subdivide_asks, onward_asks, asks_to}
use Rattle.cells.specs.Rims.{rims_by}
use Rattle.cells.specs.Flat.{subdivide_in, subdivide_asks_in, tried_of, CanSubdividePiece}
use Rattle.quads.specs.Flat.{over_cells}
use Rattle.cells.proofs.Attempts.{onward-done, pieces-any, pieces-later, subdivide-any, subdivide-fails}
use Rattle.cells.proofs.Ranges.{pieces_in_range}
use Rattle.cells.proofs.NewCells.{subdivide-cells, pieces-cells}
use Rattle.piece_nodes.proofs.Adding.{nodes-ranged, over-usable}
use Rattle.cells.proofs.Rims.{rims_length, rims-none, rims_then}
use Rattle.cells.proofs.Asking.{Below, asks-listed}
use Rattle.std.specs.Prelude.{Some, None, Result, Err}
use Rattle.pieces.specs.declared.Laid.{Laid}
use Rattle.pieces.specs.declared.FailedPiece.{FailedPiece}
use Rattle.pieces.specs.Flat.{pieces_in, every_mark, labelled_in, CanSubdivide, row, row_of, over_from, cells_left_of}
use Rattle.pieces.proofs.CellPlaces.{from-none, length_from, part-back, zeros-back, from_more, from-again}

-- what the first i pieces ask for
abbrev pub asks_at : Float → List Float → ℕ → List GridPoint → List EdgeMark → PartList → ℕ → List Ask
asks_at share l u ring es p i = asks_to share (pieces_in ring es p) (labelled_in ring p) (nodes_in l u) i

-- the first i pieces are done: the list of nodes is now m, with v used, that of cells r, and the next cell goes to place at; the rim marks are ts where they
-- were rs
pub record Reached (share : Float) (l : List Float) (u : ℕ) (rs q : List ℕ) (first : ℕ) (ring : List GridPoint) (es : List EdgeMark) (p : PartList) (i : ℕ)
    (m : List Float) (v : ℕ) (ts r : List ℕ) (at : ℕ) : Type 0 where
  pub ns : List Point
  pub cs : List Cell
  pub is : pieces_to share (pieces_in ring es p) (nodes_in l u) i ≡ done ns cs
  pub nodes : m ≡ over l ns
  pub used : v ≡ length ns
  pub cells : r ≡ over_from q first cs
  pub place : at ≡ first + length cs
  pub rims : ts ≡ rims_by u (length ns) (asks_at share l u ring es p i) rs

-- piece i was read, of n corners, bs saying which of its edges are ring edges
pub record Read (ring : List GridPoint) (es : List EdgeMark) (p : PartList) (i n : ℕ) (piece : Part) (bs : List Bool) : Type 0 where
  pub count : i < p.count
  pub corners : n ≡ length (piece_in ring es p i).points
  pub is : piece ≡ piece_in ring es p i
  pub sides : (j : ℕ) → get_or bs j false ≡ of_ring (piece_in ring every_mark p i) j

-- what is left when the loop ends: the answer, the nodes, the cells and, with all that was asked for, the rim marks
abbrev pub Left : List Float → ℕ → List ℕ → List ℕ → ℕ → ℕ → Outcome → List Ask → Result Laid FailedPiece → List Float → List ℕ → List ℕ → Type 0
Left l u rs q first reserve o ks a m ts r =
    (row a ≡ row_of o) × (m ≡ over l (nodes_of o)) × (r ≡ over_from q first (cells_left_of reserve o)) × (ts ≡ rims_by u (length (nodes_of o)) ks rs)

corners_rise : (ps : List Part) (i d : ℕ) → corners_to ps i ≤ corners_to ps (i + d)
corners_rise ps i zero = let e : i + zero ≡ i = omega arith in subst (λ (k : ℕ). corners_to ps i ≤ corners_to ps k) (sym e) (le_refl (corners_to ps i))
corners_rise ps i (suc d) =
    let e : i + suc d ≡ suc (i + d) = omega arith in
    subst (λ (k : ℕ). corners_to ps i ≤ corners_to ps k) (sym e) (omega (arith, corners_rise ps i d))

module _ {share : Float} {l : List Float} {u : ℕ} {q : List ℕ} {first reserve : ℕ} {ring : List GridPoint} {es : List EdgeMark} {p : PartList}
    (f : CanSubdivide share l u q first reserve ring es p) (rs : List ℕ) where
  abbrev ps : List Part
  ps = pieces_in ring es p

  -- what the first i pieces come to
  abbrev O : ℕ → Outcome
  O i = pieces_to share ps (nodes_in l u) i

  rise : (i : ℕ) → i ≤ p.count → length (nodes_of (O i)) ≤ length (nodes_of (O p.count))
  rise i h =
      let e : p.count - i + i ≡ p.count = omega arith in
      subst (λ (k : ℕ). length (nodes_of (O i)) ≤ length (nodes_of (O k))) e (pieces-later share ps (nodes_in l u) i (p.count - i)).longer

  corners-fit : (i : ℕ) → i ≤ p.count → corners_to ps i ≤ reserve
  corners-fit i h =
      let e : i + (p.count - i) ≡ p.count = omega arith in
      le_trans (subst (λ (k : ℕ). corners_to ps i ≤ corners_to ps k) e (corners_rise ps i (p.count - i))) f.corners

  abbrev asks : ℕ → List Ask
  asks i = asks_at share l u ring es p i

  pub start : Reached share l u rs q first ring es p 0 l u rs q first
  unfolding pieces_to asks_to
  start =
      record {
        ns = nodes_in l u;
        cs = [];
        is = refl;
        nodes = sym (over_in l u f.usable.room);
        used = sym (length_in l u);
        cells = from-none q first;
        place = omega arith;
        rims = sym (ap (λ (v : ℕ). rims_by u v [] rs) (length_in l u) ∙ rims-none u rs);
      }

  module _ {i : ℕ} {m : List Float} {v : ℕ} {ts r : List ℕ} {at : ℕ} (s : Reached share l u rs q first ring es p i m v ts r at) where
    now-is : nodes_in m v ≡ s.ns
    now-is = (λ j. nodes_in (s.nodes j) (s.used j)) ∙ in_over l s.ns

    listed : length (nodes_of (O i)) ≡ length s.ns
    listed = ap (λ (o : Outcome). length (nodes_of o)) s.is

    made : length s.cs ≡ corners_to ps i
    made = (subst (CellsOf (corners_to ps i)) s.is (pieces-cells share ps (nodes_in l u) i)).0

    pub long-nodes : i ≤ p.count → length m ≡ length l
    long-nodes h = ap length s.nodes ∙ length_over l s.ns (omega (arith, listed, rise i h, f.room))

    pub long-cells : i ≤ p.count → length r ≡ length q
    long-cells h = ap length s.cells ∙ length_from q first s.cs (omega (arith, made, corners-fit i h, f.places))

    pub long-rims : length ts ≡ length rs
    long-rims = ap length s.rims ∙ rims_length u (length s.ns) (asks i) rs

    usable : i ≤ p.count → Usable m v
    usable h =
        over-usable l s.ns s.nodes s.used
        (subst (λ (o : Outcome). EachNode InRange (nodes_of o)) s.is
        (pieces_in_range share ps (nodes_in l u) i (λ k a. f.valid k (omega arith)) (nodes-ranged f.usable)))
        (omega (arith, listed, rise i h, f.fits)) (omega (arith, listed, rise i h, f.room))

    -- what was collected of the nodes at first stays true of them
    pub held : {c : Nearby} {numbers : List ℕ} {xs : List Float} → ValidNearby l u c numbers xs → ValidNearby m v c numbers xs
    held {c} {numbers} {xs} h =
        held-over l m u v s.ns c numbers xs s.nodes s.used
        (subst (λ (o : Outcome). Grown Anything (nodes_in l u) (nodes_of o)) s.is (pieces-any share ps (nodes_in l u) i)) h

    -- piece i
    module _ {n : ℕ} {piece : Part} {bs : List Bool} (k : Read ring es p i n piece bs) where
      abbrev P : Part
      P = piece_in ring es p i

      abbrev S : Attempt
      S = subdivide share s.ns P

      divided-is : subdivide_in share m v piece ≡ S
      divided-is = λ j. subdivide share (now-is j) (k.is j)

      corners : length P.points ≡ n
      corners = sym k.corners

      next-is : O (i + 1) ≡ onward share (done s.ns s.cs) P
      unfolding pieces_to
      next-is = ap O (add-one i) ∙ ap (λ (o : Outcome). onward share o P) s.is

      grown : length S.nodes ≤ length (nodes_of (O p.count))
      grown =
          omega
          (arith, ap (λ (o : Outcome). length (nodes_of o)) next-is, ap length (onward-done share s.ns s.cs P), rise (i + 1) (omega (arith, k.count)))

      -- the cells of this piece stay k .count the reserve
      ahead : length s.cs + n ≤ reserve
      ahead = let b : corners_to ps i + length P.points ≤ reserve = corners-fit (suc i) k.count in omega (arith, b, made, corners)

      pub can : CanSubdividePiece share m v piece
      can =
          let z = ap (λ (t : Attempt). length t.nodes) divided-is in
          record {
            usable = usable (omega (arith, k.count));
            valid = subst ValidPiece (sym k.is) (f.valid i k.count);
            fits = omega (arith, z, grown, f.fits);
            room = omega (arith, z, grown, f.room, long-nodes (omega (arith, k.count)));
          }

      -- and it has marks for its nodes
      pub rim-room : length (nodes_of (O p.count)) ≤ length rs → length (subdivide_in share m v piece).nodes ≤ length ts
      rim-room h = omega (arith, ap (λ (t : Attempt). length t.nodes) divided-is, grown, h, long-rims)

      pub cell_room : at * 4 + n * 4 ≤ length r
      cell_room = omega (arith, s.place, ahead, f.places, long-cells (omega (arith, k.count)))

      new-cells : length S.cells ≡ n
      new-cells = (subdivide-cells share s.ns P).many ∙ corners

      -- what it asks for
      abbrev A : List Ask
      A = subdivide_asks share s.ns P (of_ring (piece_in ring every_mark p i))

      asks-are : subdivide_asks_in share m v piece bs ≡ A
      asks-are = λ j. subdivide_asks share (now-is j) (k.is j) (fun_ext k.sides j)

      asks-next : asks (i + 1) ≡ asks i ++ A
      unfolding asks_to onward_asks
      asks-next = ap asks (add-one i) ∙ ap (λ (o : Outcome). asks i ++ onward_asks share o P (piece_in ring every_mark p i)) s.is

      before : u ≤ length s.ns
      before = omega (arith, listed, (pieces-any share ps (nodes_in l u) i).longer, length_in l u)

      asked-before : All (Below (length s.ns)) (asks i)
      asked-before = subst (λ (o : Outcome). All (Below (length (nodes_of o))) (asks i)) s.is (asks-listed share ps (labelled_in ring p) (nodes_in l u) i)

      -- what `subdivide` left: its answer t, the nodes m', the rim marks ts', and x in the part of the cells
      module _ {t : Tried} {m' : List Float} {ts' x : List ℕ}
          (e : (t ≡ tried_of (subdivide_in share m v piece)) × (m' ≡ over m (subdivide_in share m v piece).nodes)
          × (x ≡ over_cells (take (length r - at * 4) (drop (at * 4) r)) (subdivide_in share m v piece).cells)
          × (ts' ≡ rims_by v (length (subdivide_in share m v piece).nodes) (subdivide_asks_in share m v piece bs) ts)) where
        abbrev r' : List ℕ
        r' = put_mid (at * 4) (length r - at * 4) r x

        -- the cell that fails, if one does
        fails-is : t.fails ≡ below (length S.cells) S.fails
        fails-is = ap (λ (t : Tried). t.fails) (e.0 ∙ ap tried_of divided-is)

        none-fails : t.fails ≡ None → S.fails ≡ n
        none-fails g =
            omega (arith, subdivide-fails share s.ns P, corners, new-cells, below-absent (length S.cells) S.fails (sym g ∙ fails-is))

        told : t ≡ tried_of S
        told = e.0 ∙ ap tried_of divided-is

        nodes-now : m' ≡ over l S.nodes
        nodes-now = e.1 ∙ (λ j. over (s.nodes j) (divided-is j).nodes) ∙ over-over l s.ns S.nodes (subdivide-any share s.ns P).longer

        cells-now : r' ≡ over_from q first (s.cs ++ S.cells)
        cells-now =
            part-back r x at S.cells (e.2 ∙ ap (λ (a : Attempt). over_cells (take (length r - at * 4) (drop (at * 4) r)) a.cells) divided-is)
            ∙ (λ j. over_from (s.cells j) (s.place j) S.cells)
            ∙ from_more q first s.cs S.cells (omega (arith, ahead, f.places))

        rims-now : ts' ≡ rims_by u (length S.nodes) (asks (i + 1)) rs
        rims-now =
            e.3 ∙ (λ j. rims_by (s.used j) (length (divided-is j).nodes) (asks-are j) (s.rims j))
            ∙ rims_then u (length s.ns) (length S.nodes) (asks i) A rs before (subdivide-any share s.ns P).longer asked-before
            ∙ ap (λ (a : List Ask). rims_by u (length S.nodes) a rs) (sym asks-next)

        both : length (s.cs ++ S.cells) ≡ length s.cs + n
        both = omega (arith, length-append s.cs S.cells, new-cells)

        won : S.fails ≡ n → O (i + 1) ≡ done S.nodes (s.cs ++ S.cells)
        unfolding onward
        won g = next-is ∙ rw (eq-eqb S.fails (length P.points) (g ∙ sym corners))

        lost : (S.fails ≡ n → ⊥) → O (i + 1) ≡ failed S.nodes n S.fails
        unfolding onward
        lost g =
            let a : onward share (done s.ns s.cs) P ≡ failed S.nodes (length P.points) S.fails =
            rw (ne_eqb S.fails (length P.points) (λ b. g (b ∙ corners))) in
            next-is ∙ a ∙ ap (λ (k : ℕ). failed S.nodes k S.fails) corners

        pub go_on : t.fails ≡ None → Reached share l u rs q first ring es p (i + 1) m' t.used ts' r' (at + n)
        go_on g =
            record {
              ns = S.nodes;
              cs = s.cs ++ S.cells;
              is = won (none-fails g);
              nodes = nodes-now;
              used = ap (λ (t : Tried). t.used) told;
              cells = cells-now;
              place = omega (arith, s.place, both);
              rims = rims-now;
            }

        -- after a failure no piece adds anything
        stays : (d : ℕ) → O (i + 1) ≡ failed S.nodes n S.fails → O (i + 1 + d) ≡ failed S.nodes n S.fails
        unfolding pieces_to onward
        stays zero g = let a : i + 1 + zero ≡ i + 1 = omega arith in ap O a ∙ g
        stays (suc d) g =
            let a : i + 1 + suc d ≡ suc (i + 1 + d) = omega arith in ap O a ∙ ap (λ (o : Outcome). onward share o (get_or ps (i + 1 + d) no_part)) (stays d g)

        -- and none asks for anything
        none-asked : (d : ℕ) → O (i + 1) ≡ failed S.nodes n S.fails → asks (i + 1 + d) ≡ asks (i + 1)
        unfolding asks_to onward_asks
        none-asked zero g = let a : i + 1 + zero ≡ i + 1 = omega arith in ap asks a
        none-asked (suc d) g =
            let a : i + 1 + suc d ≡ suc (i + 1 + d) = omega arith in
            ap asks a
            ∙ ap (λ (o : Outcome). asks (i + 1 + d) ++ onward_asks share o (get_or ps (i + 1 + d) no_part) (get_or (labelled_in ring p) (i + 1 + d) no_part))
            (stays d g)
            ∙ append-nil (asks (i + 1 + d)) ∙ none-asked d g

        long_after : length r' ≡ length q
        long_after = ap length cells-now ∙ length_from q first (s.cs ++ S.cells) (omega (arith, both, ahead, f.places))

        -- y is what filling in zeros left in the reserve's places from `first` on, len of them
        module _ {len : ℕ} {y : List ℕ} (h : len ≡ reserve * 4) (c : y ≡ replicate (length (take len (drop (first * 4) r'))) 0) where
          all-places : length (take len (drop (first * 4) r')) ≡ reserve * 4
          all-places = omega (arith, h, length-take-le len (drop (first * 4) r') (omega (arith, h, length-drop (first * 4) r', long_after, f.places)))

          cleared : put_mid (first * 4) len r' y ≡ over_from q first (replicate reserve no_cell)
          cleared =
              (λ j. put_mid (first * 4) (h j) r' ((c ∙ ap (λ (k : ℕ). replicate k 0) all-places) j))
              ∙ zeros-back r' first reserve
              ∙ (λ j. over_from (cells-now j) first (replicate reserve no_cell))
              ∙ from-again q first (s.cs ++ S.cells) (replicate reserve no_cell) (omega (arith, f.places))
              (omega (arith, both, ahead, length-replicate reserve no_cell))

          pub after-failure : {j : ℕ} → t.fails ≡ Some j
              → Left l u rs q first reserve (O p.count) (asks p.count)
              (Err (record { corners = n; k = j; nodes = t.used })) m' ts' (put_mid (first * 4) len r' y)
          after-failure {j} g =
              let z = below-given (length S.cells) S.fails j (sym g ∙ fails-is) in
              let b : i + 1 + (p.count - (i + 1)) ≡ p.count = omega (arith, k.count) in
              let w = lost (λ y. omega (arith, y, z.0, z.1, new-cells)) in
              let o : O p.count ≡ failed S.nodes n S.fails = ap O (sym b) ∙ stays (p.count - (i + 1)) w in
              let d : asks p.count ≡ asks (i + 1) = ap asks (sym b) ∙ none-asked (p.count - (i + 1)) w in (
                subst (λ (o : Outcome). row (Err (record { corners = n; k = j; nodes = t.used })) ≡ row_of o) (sym o)
                    (λ h. row (Err (record { corners = n; k = z.0 h; nodes = (told h).used }))),
                nodes-now ∙ ap (λ (o : Outcome). over l (nodes_of o)) (sym o),
                cleared ∙ ap (λ (o : Outcome). over_from q first (cells_left_of reserve o)) (sym o),
                rims-now ∙ (λ j. rims_by u (length (nodes_of (sym o j))) (sym d j) rs),
              )
