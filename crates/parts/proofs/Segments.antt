-- The corners that the code copies out of a part, closes with the diagonal and turns round are those of make_sub_polygon, of the first part and of the second.
use Prim.Native.Nat.{ℕ, ◌+◌, ◌-◌, ◌%◌, ◌≤◌, ◌<◌}
use native.Mathlib.Nat.{mod-eq_of_lt, add-mod_right, add-zero, zero-add, add-mod-mod, add_comm}
use native.Mathlib.Numerals.{add-one}
use native.Mathlib.Omega.{arith}
use native.Mathlib.Bridge.{le_prop}
use mathlib.Core.HLevel.{is_prop→PathP}
use mathlib.Core.Path.{◌≡◌, refl, sym, ap, ◌∙◌}
use mathlib.Core.Bool.{Bool, true, false, cond}
use mathlib.Core.List.{List, [], ◌∷◌, ◌++◌, reverse}
use lib.ListN.{length, get_or, set, take, drop, get_or-eq_default}
use lib.Seq.{get_or-take, length-take-le}
use lib.Dec.{ltb}
use lib.IntN.{ℤ, pos, nat_abs}
use lib.Signed.{non_neg, le_z}
use borrow.Author.Tests.{lt-ltb, le-ltb}
use Rattle.laws.specs.Table.{tab}
use Rattle.laws.proofs.Table.{is_tab, more-last, get_d_tab, tab_ext, take-of, drop_of, round_of, reverse_of, rotation_of, last_more}
use Rattle.vector.specs.declared.GridPoint.{GridPoint}
use Rattle.vector.specs.Grid.{origin, polygon_area}
use Rattle.marks.specs.declared.EdgeMark.{EdgeMark}
use Rattle.marks.specs.declared.EdgeMark.TheVariants.{Straight}
use Rattle.parts.specs.declared.list.Vertex.{Vertex}
use Rattle.parts.specs.Cut.{rotate, oriented, make_sub_polygon, turned_area, first_points, second_points, first_part, second_part}
use Rattle.parts.specs.Vertices.{no_vertex, vertex, corner_point, edge_at, part_of, straight, closing, backward}
use Rattle.laws.proofs.SignedTests.{from_zero}

-- ---- the test of an area's sign, on the number z that was computed
pub by_sign : (z w : ℤ) (b : Bool) → z ≡ w → le_z (pos 0) z ≡ b → non_neg w ≡ b
by_sign z w b e h = ap non_neg (sym e) ∙ from_zero z ∙ h

-- ---- a corner is its two numbers
pub same_vertex : (x y : Vertex) → x.at ≡ y.at → x.edge ≡ y.edge → x ≡ y
same_vertex x y p q = λ i. record { at = p i; edge = q i; below = is_prop→PathP (λ j. p j < 60) (λ j. le_prop) x.below y.below i }

-- ---- a turn of the two loops that copy, and what they leave
module _ (vs : List Vertex) (n v m : ℕ) where
  pub closing_in : (i j : ℕ) → i < m - 1 → j ≡ (v + i) % n → vertex vs j ≡ closing vs n v m i
  unfolding closing
  closing_in i j h e = rw (lt-ltb i (m - 1) h) (ap (vertex vs) e)

  pub closing-last : (i j : ℕ) → i ≡ m - 1 → j ≡ (v + i) % n → straight (vertex vs j) ≡ closing vs n v m (m - 1)
  unfolding closing
  closing-last i j h e = rw (le-ltb (m - 1) (m - 1) (omega arith), ← h) (ap (λ (k : ℕ). straight (vertex vs k)) e)

module _ (vs : List Vertex) (m : ℕ) where
  pub backward_in : (i : ℕ) (c : Vertex) → i < m - 1 → c.at ≡ (vertex vs (m - 1 - i)).at → c.edge ≡ (vertex vs (m - 2 - i)).edge → c ≡ backward vs m i
  unfolding backward
  backward_in i c h e f = rw (lt-ltb i (m - 1) h) (same_vertex c _ e f)

  pub backward-last : (i : ℕ) (a : Vertex) → i ≡ m - 1 → a ≡ vertex vs (m - 1 - i) → straight a ≡ backward vs m (m - 1)
  unfolding backward
  backward-last i a h e = rw (le-ltb (m - 1) (m - 1) (omega arith)) (ap straight (e ∙ ap (λ (k : ℕ). vertex vs (m - 1 - k)) h))

-- the same of the first m corners alone
pub backward-front : (vs : List Vertex) (m i : ℕ) → i < m → backward (take m vs) m i ≡ backward vs m i
unfolding backward
backward-front vs m i l =
    let a = get_or-take m vs (m - 1 - i) no_vertex (omega arith) in
    let b = get_or-take m vs (m - 2 - i) no_vertex (omega arith) in
    λ j. cond (ltb i (m - 1)) (record { at = (a j).at; edge = (b j).edge; below = (a j).below }) (straight (a j))

pub back-front : (vs : List Vertex) (m : ℕ) → m ≤ length vs → (r : List Vertex)
    → take (length (take m vs)) r ≡ tab (backward (take m vs) (length (take m vs))) (length (take m vs)) → take m r ≡ tab (backward vs m) m
back-front vs m h r e =
    let n = length-take-le m vs h in
    ap (λ (k : ℕ). take k r) (sym n) ∙ e ∙ (λ j. tab (backward (take m vs) (n j)) (n j))
    ∙ tab_ext (backward (take m vs) m) (backward vs m) m (λ i l. backward-front vs m i l)

pub read : (r : List Vertex) (f : ℕ → Vertex) (m : ℕ) → take m r ≡ tab f m → (i : ℕ) → i < m → vertex r i ≡ f i
read r f m e i h = sym (get_or-take m r i no_vertex h) ∙ ap (λ (l : List Vertex). get_or l i no_vertex) e ∙ get_d_tab f m i no_vertex h

-- the first m corners from v on, once the last edge is made straight
pub closed : (vs : List Vertex) (n v m : ℕ) (out : List Vertex) → 1 ≤ m → m ≤ length out → take m out ≡ tab (λ i. vertex vs ((v + i) % n)) m
    → take m (set out (m - 1) (straight (vertex out (m - 1)))) ≡ tab (closing vs n v m) m
closed vs n v m out h l e =
    let f = closing vs n v m in
    let r = read out (λ i. vertex vs ((v + i) % n)) m e in
    let front : take (m - 1) out ≡ tab f (m - 1) =
    is_tab (take (m - 1) out) f (m - 1) no_vertex (length-take-le (m - 1) out (omega arith))
    (λ i k. get_or-take (m - 1) out i no_vertex k ∙ r i (omega arith) ∙ closing_in vs n v m i ((v + i) % n) k refl) in
    more-last f out (m - 1) m _ refl h (omega arith) front
    (ap straight (r (m - 1) (omega arith)) ∙ closing-last vs n v m (m - 1) ((v + (m - 1)) % n) refl refl)

-- ---- points and edges of a corner
pub point-of : (ring : List GridPoint) (c d : Vertex) → c ≡ d → get_or ring c.at origin ≡ get_or ring d.at origin
point-of ring c d e = ap (λ (x : Vertex). get_or ring x.at origin) e

pub edge_of : (es : List EdgeMark) (c d : Vertex) → c ≡ d → get_or es c.edge Straight ≡ get_or es d.edge Straight
edge_of es c d e = ap (λ (x : Vertex). get_or es x.edge Straight) e

-- the number 60 is no mark's
pub straight-edge : (es : List EdgeMark) → length es ≡ 60 → (k : ℕ) → k ≡ 60 → get_or es k Straight ≡ Straight
straight-edge es len k e = get_or-eq_default es Straight (omega (arith, len, e))

-- counted from the first corner
pub from_first : (ring : List GridPoint) (vs : List Vertex) (m : ℕ) → tab (λ i. corner_point ring vs ((0 + i) % m)) m ≡ tab (corner_point ring vs) m
from_first ring vs m =
    tab_ext (λ i. corner_point ring vs ((0 + i) % m)) (corner_point ring vs) m
    (λ i l. ap (corner_point ring vs) (ap (λ (x : ℕ). x % m) (zero-add i) ∙ mod-eq_of_lt l))

-- of the first m corners alone
pub front-points : (ring : List GridPoint) (vs : List Vertex) (m : ℕ) → m ≤ length vs
    → tab (λ i. corner_point ring (take m vs) ((0 + i) % length (take m vs))) (length (take m vs)) ≡ tab (corner_point ring vs) m
front-points ring vs m h =
    let n = length-take-le m vs h in
    (λ j. tab (λ i. corner_point ring (take m vs) ((0 + i) % n j)) (n j)) ∙ from_first ring (take m vs) m
    ∙ tab_ext (corner_point ring (take m vs)) (corner_point ring vs) m (λ i l. point-of ring _ _ (get_or-take m vs i no_vertex l))

-- ---- make_sub_polygon: the area of the points ps is not negative, or it is
module _ (ring : List GridPoint) (vs : List Vertex) (m : ℕ) (ps : List GridPoint) (ep : ps ≡ tab (corner_point ring vs) m) where
  sign : (t : Bool) → non_neg (polygon_area ps) ≡ t → non_neg (polygon_area (tab (corner_point ring vs) m)) ≡ t
  sign t n = ap (λ (l : List GridPoint). non_neg (polygon_area l)) (sym ep) ∙ n

  pub none-turned : non_neg (polygon_area ps) ≡ true → 0 ≡ turned_area (tab (corner_point ring vs) m)
  unfolding turned_area
  none-turned n = rw (sign true n)

  pub all-turned : non_neg (polygon_area ps) ≡ false → nat_abs (polygon_area ps) ≡ turned_area (tab (corner_point ring vs) m)
  unfolding turned_area
  all-turned n = rw (sign false n) (ap (λ (l : List GridPoint). nat_abs (polygon_area l)) ep)

  module _ (es : List EdgeMark) (len : length es ≡ 60) (h : 1 ≤ m) (z : (vertex vs (m - 1)).edge ≡ 60) where
    pub kept-part : non_neg (polygon_area ps) ≡ true → part_of ring es vs m ≡ make_sub_polygon (tab (corner_point ring vs) m) (tab (edge_at es vs) (m - 1))
    unfolding make_sub_polygon oriented
    kept-part n =
        let e : tab (edge_at es vs) m ≡ tab (edge_at es vs) (m - 1) ++ (Straight ∷ []) =
        last_more (edge_at es vs) m h ∙ ap (λ (x : EdgeMark). tab (edge_at es vs) (m - 1) ++ (x ∷ [])) (straight-edge es len _ z) in
        rw (sign true n) (λ j. record { points = tab (corner_point ring vs) m; edges = e j })

    module _ (r : List Vertex) (e : take m r ≡ tab (backward vs m) m) where
      back-point : (i : ℕ) → i < m → (t : Bool) → ltb i (m - 1) ≡ t → corner_point ring r i ≡ corner_point ring vs (m - 1 - i)
      unfolding backward
      back-point i l true b = point-of ring _ _ (read r (backward vs m) m e i l) ∙ rw b
      back-point i l false b = point-of ring _ _ (read r (backward vs m) m e i l) ∙ rw b

      back-edge : (i : ℕ) → i < m - 1 → edge_at es r i ≡ edge_at es vs (m - 1 - 1 - i)
      unfolding backward
      back-edge i l =
          let q : m - 2 - i ≡ m - 1 - 1 - i = omega arith in
          edge_of es _ _ (read r (backward vs m) m e i (omega arith)) ∙ rw (lt-ltb i (m - 1) l) (ap (edge_at es vs) q)

      back_last : edge_at es r (m - 1) ≡ Straight
      unfolding backward
      back_last = edge_of es _ _ (read r (backward vs m) m e (m - 1) (omega arith)) ∙ rw (le-ltb (m - 1) (m - 1) (omega arith)) (straight-edge es len 60 refl)

      pub turned-part : non_neg (polygon_area ps) ≡ false → part_of ring es r m ≡ make_sub_polygon (tab (corner_point ring vs) m) (tab (edge_at es vs) (m - 1))
      unfolding make_sub_polygon oriented
      turned-part n =
          let a : tab (corner_point ring r) m ≡ reverse (tab (corner_point ring vs) m) =
          tab_ext (corner_point ring r) (λ i. corner_point ring vs (m - 1 - i)) m (λ i l. back-point i l (ltb i (m - 1)) refl)
          ∙ sym (reverse_of (corner_point ring vs) m) in
          let c : tab (edge_at es r) (m - 1) ≡ reverse (tab (edge_at es vs) (m - 1)) =
          tab_ext (edge_at es r) (λ i. edge_at es vs (m - 1 - 1 - i)) (m - 1) back-edge ∙ sym (reverse_of (edge_at es vs) (m - 1)) in
          let d : tab (edge_at es r) m ≡ reverse (tab (edge_at es vs) (m - 1)) ++ (Straight ∷ []) =
          last_more (edge_at es r) m h ∙ (λ j. c j ++ (back_last j ∷ [])) in
          rw (sign false n) (λ j. record { points = a j; edges = d j })

-- ---- a segment that is closed
module _ (vs r : List Vertex) (n v m : ℕ) (h : 1 ≤ m) (e : take m r ≡ tab (closing vs n v m) m) where
  seg_at : (i : ℕ) → i < m → (t : Bool) → ltb i (m - 1) ≡ t → (vertex r i).at ≡ (vertex vs ((v + i) % n)).at
  unfolding closing
  seg_at i l true b = ap (λ (c : Vertex). c.at) (read r (closing vs n v m) m e i l) ∙ rw b
  seg_at i l false b = ap (λ (c : Vertex). c.at) (read r (closing vs n v m) m e i l) ∙ rw b

  seg_points : (ring : List GridPoint) → tab (corner_point ring r) m ≡ tab (λ i. corner_point ring vs ((v + i) % n)) m
  seg_points ring =
      tab_ext (corner_point ring r) (λ i. corner_point ring vs ((v + i) % n)) m (λ i l. ap (λ (k : ℕ). get_or ring k origin) (seg_at i l (ltb i (m - 1)) refl))

  pub seg_straight : (vertex r (m - 1)).edge ≡ 60
  unfolding closing
  seg_straight = ap (λ (c : Vertex). c.edge) (read r (closing vs n v m) m e (m - 1) (omega arith)) ∙ rw (le-ltb (m - 1) (m - 1) (omega arith))

  seg_edge : (es : List EdgeMark) (i : ℕ) → i < m - 1 → edge_at es r i ≡ edge_at es vs ((v + i) % n)
  unfolding closing
  seg_edge es i l = edge_of es _ _ (read r (closing vs n v m) m e i (omega arith)) ∙ rw (lt-ltb i (m - 1) l)

  seg_edges : (es : List EdgeMark) → tab (edge_at es r) (m - 1) ≡ tab (λ i. edge_at es vs ((v + i) % n)) (m - 1)
  seg_edges es = tab_ext (edge_at es r) (λ i. edge_at es vs ((v + i) % n)) (m - 1) (seg_edge es)

mod-shift : (v k i n : ℕ) → ((v + k) % n + i) % n ≡ (v + (k + i)) % n
mod-shift v k i n =
    let a : i + (v + k) ≡ v + (k + i) = omega arith in
    ap (λ (x : ℕ). x % n) (add_comm ((v + k) % n) i) ∙ add-mod-mod i (v + k) n ∙ ap (λ (x : ℕ). x % n) a

-- ---- the two parts of a cut
module _ (ring : List GridPoint) (vs : List Vertex) (n v k : ℕ) (hv : v < n) (r : List Vertex) where
  pub first-points : k < n → take (k + 1) r ≡ tab (closing vs n v (k + 1)) (k + 1)
      → tab (corner_point ring r) (k + 1) ≡ first_points (rotate v (tab (corner_point ring vs) n)) k
  first-points hk e =
      seg_points vs r n v (k + 1) (omega arith) e ring
      ∙ sym
      (ap (λ (x : ℕ). take x (rotate v (tab (corner_point ring vs) n))) (sym (add-one k)) ∙ ap (take (k + 1)) (rotation_of (corner_point ring vs) n v hv origin)
      ∙ take-of (λ i. corner_point ring vs ((v + i) % n)) n origin (k + 1) (omega arith))

  pub second-points : 0 < k → k < n → take (n - k + 1) r ≡ tab (closing vs n ((v + k) % n) (n - k + 1)) (n - k + 1)
      → tab (corner_point ring r) (n - k + 1) ≡ second_points (rotate v (tab (corner_point ring vs) n)) k
  second-points hz hk e =
      let f : ℕ → GridPoint = (λ i. corner_point ring vs ((v + i) % n)) in
      let g : ℕ → GridPoint = (λ i. corner_point ring vs (((v + k) % n + i) % n)) in
      let t = rotation_of (corner_point ring vs) n v hv origin in
      let q : k + (n - k) ≡ n = omega arith in
      let w : (v + 0) % n ≡ ((v + k) % n + (n - k)) % n =
      ap (λ (x : ℕ). x % n) (add-zero v) ∙ sym (mod-shift v k (n - k) n ∙ ap (λ (x : ℕ). (v + x) % n) q ∙ add-mod_right v n) in
      seg_points vs r n ((v + k) % n) (n - k + 1) (omega arith) e ring
      ∙ sym
      ((λ j. drop k (t j) ++ take 1 (t j))
      ∙ round_of f n origin k hk g (λ i l. ap (corner_point ring vs) (sym (mod-shift v k i n))) (ap (corner_point ring vs) w))

  module _ (es : List EdgeMark) where
    pub first-is : k < n → take (k + 1) r ≡ tab (closing vs n v (k + 1)) (k + 1)
        → make_sub_polygon (tab (corner_point ring r) (k + 1)) (tab (edge_at es r) (k + 1 - 1)) ≡ first_part (part_of ring es vs n) v k
    unfolding first_part
    first-is hk e =
        let m : k + 1 - 1 ≡ k = omega arith in
        let a = first-points hk e in
        let b : tab (edge_at es r) (k + 1 - 1) ≡ take k (rotate v (tab (edge_at es vs) n)) =
        seg_edges vs r n v (k + 1) (omega arith) e es ∙ ap (tab (λ i. edge_at es vs ((v + i) % n))) m
        ∙ sym (ap (take k) (rotation_of (edge_at es vs) n v hv Straight) ∙ take-of (λ i. edge_at es vs ((v + i) % n)) n Straight k (omega arith)) in
        λ j. make_sub_polygon (a j) (b j)

    pub second_is : 0 < k → k < n → take (n - k + 1) r ≡ tab (closing vs n ((v + k) % n) (n - k + 1)) (n - k + 1)
        → make_sub_polygon (tab (corner_point ring r) (n - k + 1)) (tab (edge_at es r) (n - k + 1 - 1)) ≡ second_part (part_of ring es vs n) v k
    unfolding second_part
    second_is hz hk e =
        let m : n - k + 1 - 1 ≡ n - k = omega arith in
        let a = second-points hz hk e in
        let f : ℕ → EdgeMark = (λ i. edge_at es vs ((v + i) % n)) in
        let g : ℕ → EdgeMark = (λ i. edge_at es vs (((v + k) % n + i) % n)) in
        let b : tab (edge_at es r) (n - k + 1 - 1) ≡ drop k (rotate v (tab (edge_at es vs) n)) =
        seg_edges vs r n ((v + k) % n) (n - k + 1) (omega arith) e es ∙ ap (tab g) m
        ∙ sym
        (ap (drop k) (rotation_of (edge_at es vs) n v hv Straight) ∙ drop_of f n Straight k (omega arith)
        ∙ tab_ext (λ i. f (k + i)) g (n - k) (λ i l. ap (edge_at es vs) (sym (mod-shift v k i n))))
        in
        λ j. make_sub_polygon (a j) (b j)
