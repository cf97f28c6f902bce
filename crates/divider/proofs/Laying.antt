-- Laying out the pieces of a ring that passed every test. What the split answers shows the pieces of the definition, and all that the cells ask of
-- them holds (`can-subdivide`). By the same split with every edge marked, the rim marks that the pieces leave are the definition's (`rims-are`).
use Prim.Native.Nat.{ℕ, zero, suc, ◌+◌, ◌/◌, ◌≤◌}
use native.Mathlib.Omega.{arith}
use mathlib.Core.Path.{◌≡◌, refl, sym, ap, ◌∙◌, subst}
use mathlib.Core.List.{List, [], ◌∷◌, map}
use lib.ListN.{length, get_or, take, replicate}
use lib.Ieee.{Float}
use Rattle.laws.proofs.Table.{length_tab}
use Rattle.vector.specs.declared.Point.{Point}
use Rattle.vector.specs.Size.{AllOnSheet}
use Rattle.marks.specs.declared.EdgeMark.{EdgeMark}
use Rattle.marks.specs.declared.MarkedRing.{MarkedRing}
use Rattle.marks.specs.Part.{Part, no_part}
use Rattle.marks.specs.Edges.{part_in}
use Rattle.limits.specs.declared.Limits.{Limits}
use Rattle.split.specs.declared.Splitting.{Splitting}
use Rattle.split.specs.Split.{split_bad_vertices}
use Rattle.parts.specs.Layout.{nth}
use Rattle.split.specs.State.{ring_part, Represents, StateInvariant}
use Rattle.nodes.specs.Growth.{InRange}
use Rattle.nodes.specs.Nodes.{node_at}
use Rattle.nodes.specs.Flat.{nodes_in, Usable}
use Rattle.nodes.proofs.Flat.{length_in, node_in}
use Rattle.cells.specs.Pieces.{pieces_to}
use Rattle.cells.specs.Stages.{nodes_of}
use Rattle.cells.specs.Claims.{ValidPiece, corners_to}
use Rattle.cells.specs.Asks.{label, all_marked, asks_to}
use Rattle.cells.specs.Rims.{rims_by}
use Rattle.pieces.specs.Flat.{outcome_in, every_mark, labelled_in, asks_in, CanSubdivide}
use Rattle.call.specs.Call.{Lists, used_in, cell_reserve}
use Rattle.call.specs.Divide.{asked, rims_left}
use Rattle.call.specs.Demand.{Prepared, pieces_of}
use Rattle.call.specs.Lent.{cell_in}
use Rattle.call.proofs.Course.{Divisible, outcome_of}
use Rattle.call.proofs.NodeList as NodeList
use Rattle.call.proofs.Demand.{corners_fit}
use Rattle.call.proofs.LentCalls.{take-nodes}
use Rattle.divider.specs.Steps.{lists_in}

-- every mark of the ring, and of its first n edges
labels_taken : (n : ℕ) (es : List EdgeMark) → take n (replicate (length es) label) ≡ map (λ (e : EdgeMark). label) (take n es)
labels_taken zero es = refl
labels_taken (suc n) [] = refl
labels_taken (suc n) (e ∷ es) = ap (λ (l : List EdgeMark). label ∷ l) (labels_taken n es)

every_taken : (n : ℕ) (es : List EdgeMark) → length es ≡ 60 → take n every_mark ≡ map (λ (e : EdgeMark). label) (take n es)
unfolding every_mark
every_taken n es h = ap (λ (k : ℕ). take n (replicate k label)) (sym h) ∙ labels_taken n es

module _ (L : Limits) (r : ℕ) (m : MarkedRing) (l : List Float) (u : ℕ) (rs q : List ℕ) (k : ℕ) (s : Divisible L r (part_in m) (lists_in l u rs q k)) where
  abbrev p : Part
  p = part_in m

  abbrev x : Lists
  x = lists_in l u rs q k

  abbrev h : Prepared L r p x
  h = s.prepared

  -- ---- the lists
  listed : u ≤ length l / 2
  listed = omega (arith, h.ready.listed, length_in l (length l / 2))

  used-is : used_in x ≡ nodes_in l u
  used-is = take-nodes l u (length l / 2) listed

  usable : Usable l u
  usable =
      record {
        room = omega (arith, listed);
        few = omega (arith, listed, length_in l (length l / 2), h.ready.places);
        ranged = λ i b. subst InRange (ap (λ (ns : List Point). node_at ns i) used-is ∙ node_in l u i b) (h.ready.used i (rw (used-is, length_in l u) b));
      }

  pub node-room : length (nodes_of (outcome_of L p x)) ≤ length l / 2
  node-room = omega (arith, NodeList.fits L r p x s, length_in l (length l / 2))

  mark-room : length (nodes_of (outcome_of L p x)) ≤ length rs
  mark-room = omega (arith, NodeList.fits L r p x s, h.ready.rimmed)

  pub corners : corners_to (pieces_of L p) (length (pieces_of L p)) ≤ cell_reserve L r
  corners = corners_fit L r p x s

  pub cell_room : k + cell_reserve L r ≤ length q / 4
  cell_room = omega (arith, h.ready.cells_free, h.ready.stored, length_tab (cell_in q) (length q / 4))

  -- ---- what the split answered
  module _ (t : Splitting) (shown : Represents m.ring.points m.edges t (split_bad_vertices L p))
    where
      pub count_is : t.pieces.count ≡ length (pieces_of L p)
      count_is = sym (length_tab (nth m.ring.points m.edges t.pieces) t.pieces.count) ∙ ap length shown.pieces

      pub outcome-is : outcome_in L.share l u m.ring.points m.edges t.pieces ≡ outcome_of L p x
      outcome-is = λ j. pieces_to L.share (shown.pieces j) (sym used-is j) (count_is j)

      pub can-subdivide : (reserve : ℕ) → reserve ≡ cell_reserve L r → AllOnSheet m.ring.points → StateInvariant t
          → CanSubdivide L.share l u q k reserve m.ring.points m.edges t.pieces
      can-subdivide reserve e o d =
          record {
            usable = usable;
            sheet = o;
            valid = λ i b. subst (λ (y : List Part). ValidPiece (get_or y i no_part)) (sym shown.pieces) (NodeList.valid L r p x s i (rw count_is at b));
            fits = rw outcome-is (omega (arith, node-room, length_in l (length l / 2), h.ready.places));
            room = rw outcome-is (omega (arith, node-room));
            corners = rw e (subst (λ (n : ℕ). n ≤ cell_reserve L r) (λ j. corners_to (sym shown.pieces j) (sym count_is j)) corners);
            places = omega (arith, cell_room, e);
          }

      pub mark-room-in : length (nodes_of (outcome_in L.share l u m.ring.points m.edges t.pieces)) ≤ length rs
      mark-room-in = rw outcome-is mark-room

      -- the same ring split with every edge marked: what the pieces ask for, and the rim marks that they leave
      module _ (many : length m.edges ≡ 60)
          (labels : Represents m.ring.points every_mark t (split_bad_vertices L (ring_part m.ring.points every_mark m.ring.count))) where
        labelled : labelled_in m.ring.points t.pieces ≡ (split_bad_vertices L (all_marked p)).pieces
        unfolding all_marked
        labelled =
            labels.pieces
            ∙ ap (λ (e : List EdgeMark). (split_bad_vertices L (record { points = take m.ring.count m.ring.points; edges = e })).pieces)
            (every_taken m.ring.count m.edges many)

        asks-are : asks_in L.share l u m.ring.points m.edges t.pieces ≡ asked L p (used_in x)
        asks-are = λ j. asks_to L.share (shown.pieces j) (labelled j) (sym used-is j) (count_is j)

        pub rims-are : rims_by u (length (nodes_of (outcome_in L.share l u m.ring.points m.edges t.pieces)))
            (asks_in L.share l u m.ring.points m.edges t.pieces) rs ≡ rims_left L p x (length (nodes_of (outcome_of L p x)))
        rims-are = λ j. rims_by u (length (nodes_of (outcome-is j))) (asks-are j) rs
