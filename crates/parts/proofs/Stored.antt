-- A part that is stored after others leaves those as they are, and adds itself to the stack and to the list that they are read back as.
use Prim.Native.Nat.{ℕ, zero, suc, ◌+◌, ◌-◌, ◌%◌, ◌≤◌, ◌<◌}
use native.Mathlib.Numerals.{add-one}
use native.Mathlib.Omega.{arith}
use mathlib.Core.Path.{◌≡◌, refl, sym, ap, ◌∙◌}
use mathlib.Core.Path.{subst}
use mathlib.Core.List.{List, [], ◌∷◌, ◌++◌, reverse}
use lib.ListN.{length, get_or, take, drop, set, length-append, length-take, length-drop, get_or-append}
use lib.Seq.{take-length, get_or-set_same, get_or-set_other, get_or-take, get_or-drop, get_or-append-add, length-take-le}
use borrow.Rule.Slice.PartMut.{put_mid}
use Rattle.std.proofs.lemmas.List.{get_or_default}
use Rattle.laws.specs.Table.{tab}
use Rattle.laws.proofs.Table.{tab_ext, take_tab, rotation_of, reverse_of, get_d_tab}
use Rattle.vector.specs.declared.GridPoint.{GridPoint}
use Rattle.marks.specs.declared.EdgeMark.{EdgeMark}
use Rattle.parts.specs.declared.list.Vertex.{Vertex}
use Rattle.parts.specs.declared.list.PartList.{PartList}
use Rattle.parts.specs.Vertices.{no_vertex, vertex, corner_point, edge_at, part_of}
use Rattle.parts.specs.Layout.{end, part_at, nth, stack_of, list_of, Packed, Stored, Pushed}
use Rattle.parts.proofs.Segments.{read, point-of, edge_of}

-- ---- parts whose corners agree
pub same-part : (ring : List GridPoint) (es : List EdgeMark) (c vs : List Vertex) (a n : ℕ) → ((i : ℕ) → i < n → vertex c (a + i) ≡ vertex vs i)
    → part_at ring es c a n ≡ part_of ring es vs n
same-part ring es c vs a n h =
    let x = tab_ext (λ i. corner_point ring c (a + i)) (corner_point ring vs) n (λ i l. point-of ring _ _ (h i l)) in
    let y = tab_ext (λ i. edge_at es c (a + i)) (edge_at es vs) n (λ i l. edge_of es _ _ (h i l)) in
    λ j. record { points = x j; edges = y j }

same_place : (ring : List GridPoint) (es : List EdgeMark) (c d : List Vertex) (a n : ℕ) → ((i : ℕ) → i < n → vertex c (a + i) ≡ vertex d (a + i))
    → part_at ring es c a n ≡ part_at ring es d a n
same_place ring es c d a n h =
    let x = tab_ext (λ i. corner_point ring c (a + i)) (λ i. corner_point ring d (a + i)) n (λ i l. point-of ring _ _ (h i l)) in
    let y = tab_ext (λ i. edge_at es c (a + i)) (λ i. edge_at es d (a + i)) n (λ i l. edge_of es _ _ (h i l)) in
    λ j. record { points = x j; edges = y j }

-- the corners that were copied out of a list are those of the part there
pub part_loaded : (ring : List GridPoint) (es : List EdgeMark) (c vs : List Vertex) (a n : ℕ) → take n vs ≡ tab (λ i. vertex c (a + i)) n
    → part_at ring es c a n ≡ part_of ring es vs n
part_loaded ring es c vs a n e = same-part ring es c vs a n (λ i l. sym (read vs (λ j. vertex c (a + j)) n e i l))

-- ends that rise
pub rises : (p : PartList) (t : ℕ) → ((j : ℕ) → j < t → end p j ≤ end p (suc j)) → (d j : ℕ) → j + d ≡ t → end p j ≤ end p t
rises p t m zero j q = let z : j ≡ t = omega arith in rw z (omega arith)
rises p t m (suc d) j q = let a = rises p t m d (suc j) (omega arith) in let b = m j (omega arith) in omega arith

pub kept_rises : (p : PartList) (j : ℕ) → j < p.count → end p j ≤ end p (suc j)
kept_rises p j l = omega (arith, (p.step j l).0)

-- what lies below a store stays
module _ (ring : List GridPoint) (es : List EdgeMark) (p r : PartList) where
  module _ (t : ℕ) (e : (j : ℕ) → j ≤ t → end r j ≡ end p j) (m : (j : ℕ) → j < t → end p j ≤ end p (suc j))
      (h : (i : ℕ) → i < end p t → vertex r.corners i ≡ vertex p.corners i) where
    nth-same : (j : ℕ) → j < t → nth ring es r j ≡ nth ring es p j
    nth-same j l =
        let a = e j (omega arith) in
        let b = e (suc j) (omega arith) in
        let k = m j l in
        let s = rises p t m (t - suc j) (suc j) (omega arith) in
        (λ i. part_at ring es r.corners (a i) (b i - a i))
        ∙ same_place ring es r.corners p.corners (end p j) (end p (suc j) - end p j) (λ i q. h (end p j + i) (omega arith))

  stack_ext : (t : ℕ) → ((j : ℕ) → j < t → nth ring es r j ≡ nth ring es p j) → stack_of ring es r t ≡ stack_of ring es p t
  unfolding stack_of
  stack_ext zero h = refl
  stack_ext (suc t) h =
      let x = h t (omega arith) in
      let y = stack_ext t (λ j l. h j (omega arith)) in
      λ j. x j ∷ y j

  module _ (t : ℕ) (e : (j : ℕ) → j ≤ t → end r j ≡ end p j) (m : (j : ℕ) → j < t → end p j ≤ end p (suc j))
      (h : (i : ℕ) → i < end p t → vertex r.corners i ≡ vertex p.corners i) where
    pub same-stack : stack_of ring es r t ≡ stack_of ring es p t
    same-stack = stack_ext t (nth-same t e m h)

    pub same-list : list_of ring es r t ≡ list_of ring es p t
    same-list = tab_ext (nth ring es r) (nth ring es p) t (nth-same t e m h)

-- ---- corners ps put over those from place a on
unseen : {A : Type 0} (l : List A) (i j : ℕ) (x d : A) → j < i → get_or (set l i x) j d ≡ get_or l j d
unseen l i j x d h = get_or-set_other l i j x d (λ e. omega (arith, e))

module _ (vs ps : List Vertex) (a : ℕ) (l : a + length ps ≤ length vs) where
  abbrev laid : List Vertex
  laid = put_mid a (length ps) vs ps

  before : length (take a vs) ≡ a
  before = length-take-le a vs (omega arith)

  after-of : (i : ℕ) → vertex laid (a + i) ≡ vertex (ps ++ drop (length ps) (drop a vs)) i
  after-of i =
      ap (λ (k : ℕ). vertex laid (k + i)) (sym before) ∙ get_or-append-add (take a vs) (ps ++ drop (length ps) (drop a vs)) i no_vertex

  pub laid-stored : Stored vs a ps (length ps) laid
  laid-stored = record {
    low = λ i h. get_or-append (take a vs) _ no_vertex i (omega (arith, before)) ∙ get_or-take a vs i no_vertex h;
    high = λ i h. after-of i ∙ get_or-append ps _ no_vertex i h;
    rest = λ i h.
        let j = i - (a + length ps) in
        let e : i ≡ a + (length ps + j) = omega arith in
        ap (vertex laid) e ∙ after-of (length ps + j) ∙ get_or-append-add ps (drop (length ps) (drop a vs)) j no_vertex
        ∙ get_or-drop (length ps) (drop a vs) j no_vertex ∙ get_or-drop a vs (length ps + j) no_vertex ∙ ap (vertex vs) (sym e);
  }

-- ---- what a push gives: r is p with the first n corners of ps put at its end, and one end more
module _ (p : PartList) (few : p.count < 33) (wide : length p.ends ≡ 34) (ps : List Vertex) (n : ℕ) (r : PartList)
    (s : Stored p.corners (end p p.count) ps n r.corners) (ends : r.ends ≡ set p.ends (p.count + 1) (end p p.count + n)) (count : r.count ≡ p.count + 1) where
  old-end : (j : ℕ) → j ≤ p.count → end r j ≡ end p j
  old-end j q = ap (λ (l : List ℕ). get_or l j 0) ends ∙ unseen p.ends (p.count + 1) j (end p p.count + n) 0 (omega arith)

  new-end : end r (p.count + 1) ≡ end p p.count + n
  new-end =
      ap (λ (l : List ℕ). get_or l (p.count + 1) 0) ends ∙ get_or-set_same p.ends (p.count + 1) (end p p.count + n) 0 (omega (arith, wide))

  new-suc : end r (suc p.count) ≡ end p p.count + n
  new-suc = ap (end r) (sym (add-one p.count)) ∙ new-end

  new-part : (ring : List GridPoint) (es : List EdgeMark) → nth ring es r p.count ≡ part_of ring es ps n
  new-part ring es =
      let x = old-end p.count (omega arith) in
      let y : end r (suc p.count) - end r p.count ≡ n = omega (arith, new-suc, x) in
      (λ j. part_at ring es r.corners (x j) (y j)) ∙ same-part ring es r.corners ps (end p p.count) n s.high

  is-packed : Packed p → Packed r
  is-packed h = record {
    start = old-end 0 (omega arith) ∙ h.start;
    corners = λ i l m. let g = ap (end r) count ∙ new-end in s.rest i (omega arith) ∙ h.corners i (omega arith) m;
    ends =
        λ j l. ap (λ (l : List ℕ). get_or l j 0) ends
        ∙ get_or-set_other p.ends (p.count + 1) j (end p p.count + n) 0 (λ e. omega (arith, e, count)) ∙ h.ends j (omega (arith, count));
  }

  pub is_pushed : Pushed p ps n r
  unfolding stack_of tab
  is_pushed = record {
    count = count;
    last = ap (end r) count ∙ new-end;
    stack =
        λ ring es. ap (stack_of ring es r) (count ∙ add-one p.count)
        ∙ (λ j. new-part ring es j ∷ same-stack ring es p r p.count old-end (kept_rises p) s.low j);
    list =
        λ ring es. ap (list_of ring es r) (count ∙ add-one p.count)
        ∙ (λ j. same-list ring es p r p.count old-end (kept_rises p) s.low j ++ (new-part ring es j ∷ []));
    packed = is-packed;
  }

-- the same as the code has it: a is where the parts end, and qs is what was copied
pub pushed-at : (p : PartList) → p.count < 33 → length p.ends ≡ 34 → length p.corners ≡ 124 → (ps : List Vertex) → end p p.count + length ps ≤ 124
    → (a m : ℕ) (qs : List Vertex) → a ≡ end p p.count → m ≡ length ps → qs ≡ ps → (r : PartList) → r.corners ≡ put_mid a m p.corners qs
    → r.ends ≡ set p.ends (p.count + 1) (a + length ps) → r.count ≡ p.count + 1 → Pushed p ps (length ps) r
pushed-at p few wide long ps room a m qs ea em eq r corners ends count =
    let l : end p p.count + length ps ≤ length p.corners = omega (arith, long) in
    let c : r.corners ≡ laid p.corners ps (end p p.count) l = corners ∙ (λ j. put_mid (ea j) (em j) p.corners (eq j)) in
    is_pushed p few wide ps (length ps) r (subst (Stored p.corners (end p p.count) ps (length ps)) (sym c) (laid-stored p.corners ps (end p p.count) l))
    (ends ∙ ap (λ (k : ℕ). set p.ends (p.count + 1) (k + length ps)) ea) count

-- ---- the corners from v on, and then round, as the code goes through them
abbrev pub turned : List Vertex → ℕ → List Vertex
turned vs v = take (length vs - v) (drop v vs) ++ take v vs

pub length-turned : (vs : List Vertex) (v : ℕ) → v < length vs → length (turned vs v) ≡ length vs
length-turned vs v h =
    omega (arith, length-append (take (length vs - v) (drop v vs)) (take v vs), length-take (length vs - v) (drop v vs), length-drop v vs, length-take v vs)

pub turned-at : (vs : List Vertex) (v i : ℕ) (d : Vertex) → v < length vs → i < length vs
    → get_or (turned vs v) i d ≡ vertex vs ((v + i) % length vs)
turned-at vs v i d h l =
    let a = take_tab vs (length vs) no_vertex (omega arith) in
    let e : vs ≡ tab (vertex vs) (length vs) = sym (take-length vs) ∙ a in
    let b : take (length vs - v) (drop v vs) ≡ drop v vs = ap (λ (k : ℕ). take k (drop v vs)) (sym (length-drop v vs)) ∙ take-length (drop v vs) in
    get_or_default (turned vs v) i d no_vertex (omega (arith, length-turned vs v h))
    ∙ ap (λ (m : List Vertex). vertex (m ++ take v vs) i) b
    ∙ ap (λ (m : List Vertex). vertex (drop v m ++ take v m) i) e
    ∙ ap (λ (m : List Vertex). vertex m i) (rotation_of (vertex vs) (length vs) v h no_vertex)
    ∙ get_d_tab (λ k. vertex vs ((v + k) % length vs)) (length vs) i no_vertex l

-- and the other way round
pub reverse-at : (vs : List Vertex) (i : ℕ) (d : Vertex) → i < length vs → get_or (reverse vs) i d ≡ vertex vs (length vs - 1 - i)
reverse-at vs i d l =
    let a = take_tab vs (length vs) no_vertex (omega arith) in
    ap (λ (m : List Vertex). get_or (reverse m) i d) (sym (take-length vs) ∙ a)
    ∙ ap (λ (m : List Vertex). get_or m i d) (reverse_of (vertex vs) (length vs))
    ∙ get_d_tab (λ k. vertex vs (length vs - 1 - k)) (length vs) i d l
