-- What is asked for is what is listed. Every node that an attempt, a piece or pieces one after the other ask for is listed when they are through
-- (`attempt-listed`, `subdivide-listed`, `asks-listed`); and every node that they add was asked for (`attempt-cover`, `subdivide-cover`, `asks-cover`).
use Prim.Native.Nat.{ℕ, zero, suc, ◌≤◌, ◌<◌}
use native.Mathlib.Nat.{lt_of_lt_of_le, not-suc-le-zero, eq-or-lt_of_le}
use native.Mathlib.Decide.{dec_lt}
use native.Mathlib.Omega.{arith}
use mathlib.Core.Path.{◌≡◌, refl, sym, ap, ◌∙◌, subst}
use mathlib.Core.Logic.{⊎_elim}
use mathlib.Core.Bool.{Bool, true, false, ◌||◌, cond}
use mathlib.Core.List.Memᴰ
use mathlib.Core.List.{List, [], ◌∷◌, ◌++◌, Memᴰ}
use lib.ListN.{length, get_or, length-append, get_or-append}
use lib.Seq.{get_or_at}
use lib.Dec.{eqb}
use lib.Ieee.{Float}
use Rattle.laws.specs.All.{All}
use Rattle.laws.specs.Table.{tab}
use Rattle.laws.proofs.Lists.{all_append, all_snoc, all-weaken}
use Rattle.vector.specs.declared.GridPoint.{GridPoint}
use Rattle.vector.specs.declared.Point.{Point}
use Rattle.vector.specs.Grid.{origin}
use Rattle.vector.specs.Plane.{in_mm}
use Rattle.marks.specs.declared.EdgeMark.{EdgeMark}
use Rattle.marks.specs.Part.{Part, no_part}
use Rattle.nodes.specs.Nodes.{number, add_node, Added, add_nodes}
use Rattle.nodes.specs.Growth.{Anything}
use Rattle.nodes.proofs.Numbers.{number-le}
use Rattle.nodes.proofs.Growth.{add_node-old, add_node-new, add_nodes-grown, add_nodes-length, add_nodes-number}
use Rattle.quads.specs.Quads.{edge_middle, mean}
use Rattle.cells.specs.Cells.{Attempt, attempt, subdivide}
use Rattle.cells.specs.Pieces.{Outcome, done, failed, onward, pieces_to}
use Rattle.cells.specs.Stages.{corners, end, middles, centre, mark_at, straight, nodes_of}
use Rattle.cells.specs.Asks.{as_corner, as_centre, as_middle, Ask, ask, of_ring, asks_for, attempt_asks, subdivide_asks, onward_asks, asks_to}
use Rattle.cells.specs.Rims.{AskedFor}
use Rattle.cells.proofs.Attempts.{attempt-nodes, attempt-any, onward-done, pieces-next}

-- v nodes are listed, the node that q asks for among them
abbrev pub Below : ℕ → Ask → Type 0
Below v q = q.node < v

-- ---- tables
all_tab : (P : Ask → Type 0) (f : ℕ → Ask) (n : ℕ) → ((i : ℕ) → i < n → P (f i)) → All P (tab f n)
unfolding tab
all_tab P f zero h = tt
all_tab P f (suc n) h = all_snoc P (tab f n) (f n) (all_tab P f n (λ i l. h i (omega arith))) (h n (omega arith))

mem_tab : (f : ℕ → Ask) (n i : ℕ) → i < n → Memᴰ (f i) (tab f n)
unfolding tab
mem_tab f zero i h = absurd (not-suc-le-zero h)
mem_tab f (suc n) i h =
    ⊎_elim
    (λ (e : i ≡ n). Memᴰ.append_right (tab f n) (Memᴰ.head (ap f e)))
    (λ (l : i < n). Memᴰ.append_left (f n ∷ []) (mem_tab f n i l))
    (eq-or-lt_of_le (omega arith))

-- ---- points added one after the other: each node that is new has one of their numbers
record Got (s : Added) (n k : ℕ) : Type 0 where
  pub place : ℕ
  pub low : place < n
  pub is : get_or s.numbers place 0 ≡ k

one_more : (ns : List Point) (p : Point) (k : ℕ) → length ns ≤ k → k < length (add_node ns p) → number ns p ≡ k
one_more ns p k h l = go (dec_lt (number ns p) (length ns))
  where
    go : Dec (number ns p < length ns) → number ns p ≡ k
    go (yes a) = absurd (omega (arith, h, l, ap length (add_node-old ns p a)))
    go (no a) = omega (arith, a, h, l, number-le ns p, ap length (add_node-new ns p (omega arith)), length-append ns (p ∷ []))

got : (ns : List Point) (p : ℕ → Point) (n k : ℕ) → length ns ≤ k → k < length (add_nodes ns p n).nodes → Got (add_nodes ns p n) n k
unfolding add_nodes
got ns p zero k h l = absurd (omega (arith, h, l))
got ns p (suc n) k h l = go (dec_lt k (length (add_nodes ns p n).nodes)) (got ns p n k h)
  where
    s : Added
    s = add_nodes ns p n

    last : List ℕ
    last = number s.nodes (p n) ∷ []

    go : Dec (k < length s.nodes) → (k < length s.nodes → Got s n k)
        → Got (record { nodes = add_node s.nodes (p n); numbers = s.numbers ++ last }) (suc n) k
    go (yes a) r =
        let w = r a in
        record {
          place = w.place;
          low = omega (arith, w.low);
          is = get_or-append s.numbers last 0 w.place (omega (arith, w.low, add_nodes-length ns p n)) ∙ w.is;
        }
    go (no a) r =
        record {
          place = n;
          low = omega arith;
          is = get_or_at s.numbers (number s.nodes (p n)) [] 0 n (add_nodes-length ns p n) ∙ one_more s.nodes (p n) k (omega arith) l;
        }

later : {a b : List Ask} (k : ℕ) → ((q : Ask) → Memᴰ q a → Memᴰ q b) → AskedFor a k → AskedFor b k
later k f w = record { ask = w.ask; one = f w.ask w.one; for = w.for }

module _ (share : Float) where
  -- ---- an attempt
  module _ (ns : List Point) (ps : List GridPoint) (e : ℕ → EdgeMark) (o : ℕ → Bool) where
    abbrev n : ℕ
    n = length ps

    abbrev vs : Added
    vs = corners ns ps

    abbrev ms : Added
    ms = middles share ns ps e

    abbrev cs : Added
    cs = centre share ns ps e

    abbrev v_a : List Ask
    v_a = tab (λ i. ask (get_or vs.numbers i 0) as_corner) n

    abbrev m_a : List Ask
    m_a = tab (λ i. ask (get_or ms.numbers i 0) (as_middle (o i))) n

    abbrev c_a : List Ask
    c_a = ask (get_or cs.numbers 0 0) as_centre ∷ []

    vs-ms : length vs.nodes ≤ length ms.nodes
    vs-ms = (add_nodes-grown {P = Anything} vs.nodes (λ i. edge_middle share (e i) (end ns ps i) (end ns ps (suc i))) n (λ i h. tt)).longer

    ms-cs : length ms.nodes ≤ length cs.nodes
    ms-cs = (add_nodes-grown {P = Anything} ms.nodes (λ i. mean (end ns ps) n) 1 (λ i h. tt)).longer

    pub attempt-listed : All (Below (length (attempt share ns ps e).nodes)) (attempt_asks share ns ps e o)
    unfolding attempt_asks asks_for
    attempt-listed =
        subst (λ (m : List Point). All (Below (length m)) (v_a ++ m_a ++ c_a)) (sym (attempt-nodes share ns ps e))
        (all_append (Below (length cs.nodes)) (v_a ++ m_a) c_a
        (all_append (Below (length cs.nodes)) v_a m_a
        (all_tab (Below (length cs.nodes)) (λ i. ask (get_or vs.numbers i 0) as_corner) n
        (λ i h. omega (arith, (add_nodes-number ns (λ i. in_mm (get_or ps i origin)) n i h).low, vs-ms, ms-cs)))
        (all_tab (Below (length cs.nodes)) (λ i. ask (get_or ms.numbers i 0) (as_middle (o i))) n
        (λ i h. omega (arith, (add_nodes-number vs.nodes (λ i. edge_middle share (e i) (end ns ps i) (end ns ps (suc i))) n i h).low, ms-cs))))
        ((add_nodes-number ms.nodes (λ i. mean (end ns ps) n) 1 0 (omega arith)).low, tt))

    pub attempt-cover : (k : ℕ) → length ns ≤ k → k < length (attempt share ns ps e).nodes → AskedFor (attempt_asks share ns ps e o) k
    unfolding attempt_asks asks_for
    attempt-cover k h l = go (dec_lt k (length vs.nodes)) (dec_lt k (length ms.nodes))
      where
        all : k < length cs.nodes
        all = subst (λ (m : List Point). k < length m) (attempt-nodes share ns ps e) l

        go : Dec (k < length vs.nodes) → Dec (k < length ms.nodes) → AskedFor (v_a ++ m_a ++ c_a) k
        go (yes a) b =
            let w = got ns (λ i. in_mm (get_or ps i origin)) n k h a in
            record {
              ask = ask (get_or vs.numbers w.place 0) as_corner;
              one = Memᴰ.append_left c_a (Memᴰ.append_left m_a (mem_tab (λ i. ask (get_or vs.numbers i 0) as_corner) n w.place w.low));
              for = w.is;
            }
        go (no a) (yes b) =
            let w = got vs.nodes (λ i. edge_middle share (e i) (end ns ps i) (end ns ps (suc i))) n k (omega arith) b in
            record {
              ask = ask (get_or ms.numbers w.place 0) (as_middle (o w.place));
              one = Memᴰ.append_left c_a (Memᴰ.append_right v_a (mem_tab (λ i. ask (get_or ms.numbers i 0) (as_middle (o i))) n w.place w.low));
              for = w.is;
            }
        go (no a) (no b) =
            let w = got ms.nodes (λ i. mean (end ns ps) n) 1 k (omega arith) all in
            let z : w.place ≡ 0 = omega (arith, w.low) in
            record {
              ask = ask (get_or cs.numbers 0 0) as_centre;
              one = Memᴰ.append_right (v_a ++ m_a) (Memᴰ.head refl);
              for = ap (λ (i : ℕ). get_or cs.numbers i 0) (sym z) ∙ w.is;
            }

  -- ---- a piece
  module _ (ns : List Point) (p : Part) (o : ℕ → Bool) where
    abbrev t : Attempt
    t = attempt share ns p.points (mark_at p)

    abbrev t' : Attempt
    t' = attempt share t.nodes p.points straight

    abbrev first : List Ask
    first = attempt_asks share ns p.points (mark_at p) o

    abbrev second : List Ask
    second = attempt_asks share t.nodes p.points straight o

    up : length t.nodes ≤ length t'.nodes
    up = (attempt-any share t.nodes p.points straight).longer

    pub subdivide-listed : All (Below (length (subdivide share ns p).nodes)) (subdivide_asks share ns p o)
    unfolding subdivide subdivide_asks
    subdivide-listed = go (eqb t.fails (length p.points) || t.far)
      where
        go : (b : Bool) → All (Below (length (cond b t t').nodes)) (first ++ cond b [] second)
        go true = all_append (Below (length t.nodes)) first [] (attempt-listed ns p.points (mark_at p) o) tt
        go false =
            all_append (Below (length t'.nodes)) first second
            (all-weaken (Below (length t.nodes)) (Below (length t'.nodes)) (λ q l. omega (arith, l, up)) first
            (attempt-listed ns p.points (mark_at p) o))
            (attempt-listed t.nodes p.points straight o)

    pub subdivide-cover : (k : ℕ) → length ns ≤ k → k < length (subdivide share ns p).nodes → AskedFor (subdivide_asks share ns p o) k
    unfolding subdivide subdivide_asks
    subdivide-cover k h l = go (eqb t.fails (length p.points) || t.far) l
      where
        by_first : (m : List Ask) → k < length t.nodes → AskedFor (first ++ m) k
        by_first m l = later k (λ q. Memᴰ.append_left m) (attempt-cover ns p.points (mark_at p) o k h l)

        go : (b : Bool) → k < length (cond b t t').nodes → AskedFor (first ++ cond b [] second) k
        go true l = by_first [] l
        go false l = two (dec_lt k (length t.nodes))
          where
            two : Dec (k < length t.nodes) → AskedFor (first ++ second) k
            two (yes a) = by_first second a
            two (no a) = later k (λ q. Memᴰ.append_right first) (attempt-cover t.nodes p.points straight o k (omega arith) l)

  -- ---- pieces one after the other
  onward-listed : (x : Outcome) (p r : Part) → All (Below (length (nodes_of (onward share x p)))) (onward_asks share x p r)
  unfolding onward_asks
  onward-listed (failed ns n k) p r = tt
  onward-listed (done ns cs) p r =
      subst (λ (m : List Point). All (Below (length m)) (subdivide_asks share ns p (of_ring r))) (sym (onward-done share ns cs p))
      (subdivide-listed ns p (of_ring r))

  onward-failed : (ns : List Point) (n j : ℕ) (p : Part) → onward share (failed ns n j) p ≡ failed ns n j
  unfolding onward
  onward-failed ns n j p = refl

  onward-cover : (x : Outcome) (p r : Part) (k : ℕ) → length (nodes_of x) ≤ k → k < length (nodes_of (onward share x p)) → AskedFor (onward_asks share x p r) k
  unfolding onward_asks
  onward-cover (failed ns n j) p r k h l = absurd (omega (arith, h, subst (λ (x : Outcome). k < length (nodes_of x)) (onward-failed ns n j p) l))
  onward-cover (done ns cs) p r k h l = subdivide-cover ns p (of_ring r) k h (subst (λ (m : List Point). k < length m) (onward-done share ns cs p) l)

  module _ (ps rs : List Part) (ns : List Point) where
    pub asks-listed : (i : ℕ) → All (Below (length (nodes_of (pieces_to share ps ns i)))) (asks_to share ps rs ns i)
    unfolding asks_to pieces_to
    asks-listed zero = tt
    asks-listed (suc i) =
        let v = length (nodes_of (pieces_to share ps ns (suc i))) in
        all_append (Below v) (asks_to share ps rs ns i) (onward_asks share (pieces_to share ps ns i) (get_or ps i no_part) (get_or rs i no_part))
        (all-weaken (Below (length (nodes_of (pieces_to share ps ns i)))) (Below v) (λ q l. lt_of_lt_of_le l (pieces-next share ps ns i).longer)
        (asks_to share ps rs ns i) (asks-listed i))
        (onward-listed (pieces_to share ps ns i) (get_or ps i no_part) (get_or rs i no_part))

    pub asks-cover : (i k : ℕ) → length ns ≤ k → k < length (nodes_of (pieces_to share ps ns i)) → AskedFor (asks_to share ps rs ns i) k
    unfolding asks_to pieces_to
    asks-cover zero k h l = absurd (omega (arith, h, l))
    asks-cover (suc i) k h l = go (dec_lt k (length (nodes_of (pieces_to share ps ns i)))) (asks-cover i k h)
      where
        new : List Ask
        new = onward_asks share (pieces_to share ps ns i) (get_or ps i no_part) (get_or rs i no_part)

        go : Dec (k < length (nodes_of (pieces_to share ps ns i))) → (k < length (nodes_of (pieces_to share ps ns i)) → AskedFor (asks_to share ps rs ns i) k)
            → AskedFor (asks_to share ps rs ns i ++ new) k
        go (yes a) f = later k (λ q. Memᴰ.append_left new) (f a)
        go (no a) f =
            later k (λ q. Memᴰ.append_right (asks_to share ps rs ns i))
            (onward-cover (pieces_to share ps ns i) (get_or ps i no_part) (get_or rs i no_part) k (omega arith) l)
