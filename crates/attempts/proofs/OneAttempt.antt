-- An attempt as the code makes it, corners, middles, centre and cells one after the other over the lent lists, is the
-- attempt of the definition: `answer` says so of all that the function returns and leaves.
use mathlib.Core.Path.{◌≡◌, refl, sym, ap, ◌∙◌, subst}
use mathlib.Core.List.{List}
use Prim.Native.Nat.{ℕ, zero, suc, ◌+◌, ◌*◌, ◌%◌, ◌≤◌, ◌<◌}
use native.Mathlib.Nat.{mod-lt, le_refl}
use native.Mathlib.Omega.{arith}
use mathlib.Core.Bool.{Bool, not}
use lib.ListN.{length, get_or, take}
use lib.Seq.{get_or-take, length-take-le, take_all}
use Rattle.std.specs.Prelude.{Option}
use lib.Ieee.{Float}
use Rattle.laws.specs.Bounded.{any, first, below}
use Rattle.laws.specs.Double.{nat, ◌+f◌, ◌/f◌}
use Rattle.vector.specs.declared.GridPoint.{GridPoint}
use Rattle.vector.specs.declared.Point.{Point}
use Rattle.vector.specs.Grid.{origin}
use Rattle.marks.specs.Part.{Part}
use Rattle.marks.specs.declared.EdgeMark.{EdgeMark}
use Rattle.marks.specs.declared.EdgeMark.TheVariants.{Straight}
use Rattle.nodes.specs.declared.Placed.{Placed}
use Rattle.nodes.specs.Nodes.{node_at, add_node, Added, add_nodes}
use Rattle.nodes.specs.Growth.{Anything, InRange}
use Rattle.nodes.specs.Flat.{node_in_of, nodes_in, over, Usable, placed}
use Rattle.nodes.proofs.Growth.{add_node-grown, add_node-number, add_nodes-grown}
use Rattle.nodes.proofs.Flat.{length_in, node_in, in_over, length_over, over-over}
use Rattle.cells.specs.declared.Tried.{Tried}
use Rattle.quads.specs.Quads.{middle, too_far, edge_middle, total, mean, holds, cells_to, no_cell}
use Rattle.cells.specs.Cells.{Attempt, attempt}
use Rattle.cells.specs.Stages as Stages
use Rattle.cells.specs.Stages.{corners, middles, mark_at}
use Rattle.cells.specs.Asks.{asks_for, attempt_asks}
use Rattle.cells.specs.Rims.{rims_by}
use Rattle.cells.specs.Flat.{side_at, attempt_in, attempt_asks_in, tried_of, CanTry}
use Rattle.piece_nodes.specs.Adding.{corner_at, CanAdd, Adds, end_at, middle_at, far_at}
use Rattle.quads.specs.Flat.{ListedTo, over_cells}
use Rattle.quads.proofs.CellList.{cells-length}
use Rattle.cells.proofs.Ranges.{mean-ranged, edge_by}
use Rattle.piece_nodes.proofs.Adding as adding
use Rattle.quads.proofs.Turns as turns
use Rattle.vector.proofs.Sheet.{point_in_lem, middle_in_lem}

-- ---- a mean goes by its points
total_ext : (f g : ℕ → Float) (n : ℕ) → ((i : ℕ) → i < n → f i ≡ g i) → total f n ≡ total g n
unfolding total
total_ext f g zero h = refl
total_ext f g (suc n) h = λ j. total_ext f g n (λ i k. h i (omega arith)) j +f h n (le_refl (suc n)) j

mean_ext : (f g : ℕ → Point) (n : ℕ) → ((i : ℕ) → i < n → f i ≡ g i) → mean f n ≡ mean g n
unfolding mean
mean_ext f g n h =
    λ j. record {
      x = total_ext (λ i. (f i).x) (λ i. (g i).x) n (λ i k. ap (λ (p : Point). p.x) (h i k)) j /f nat n;
      y = total_ext (λ i. (f i).y) (λ i. (g i).y) n (λ i k. ap (λ (p : Point). p.y) (h i k)) j /f nat n;
    }

-- a piece of the points ps, its edges marked by es
abbrev part : List GridPoint → List EdgeMark → Part
part ps es = record { points = ps; edges = take (length ps) es }

-- its stages, over what the arrays and the lent list hold
module _ (share : Float) (l : List Float) (u : ℕ) (ps : List GridPoint) (es : List EdgeMark) where
  abbrev Vs : Added
  Vs = corners (nodes_in l u) ps

  abbrev end : ℕ → Point
  end i = Stages.end (nodes_in l u) ps i

  abbrev Ms : Added
  Ms = middles share (nodes_in l u) ps (mark_at (part ps es))

  abbrev A : Attempt
  A = attempt_in share l u (part ps es)

  vs-ms : length Vs.nodes ≤ length Ms.nodes
  vs-ms =
      (add_nodes-grown {P = Anything} Vs.nodes (λ i. edge_middle share (get_or (take (length ps) es) i Straight) (end i) (end (suc i)))
      (length ps) (λ i h. tt)).longer

  ms-all : length Ms.nodes ≤ length A.nodes
  unfolding add_nodes attempt
  ms-all = (add_node-grown {P = Anything} Ms.nodes (mean end (length ps)) tt).longer

module _ {share : Float} {l : List Float} {u : ℕ} {ps : List GridPoint} (es : List EdgeMark) (f : CanTry share l u (part ps es)) where
  pub add-corners : CanAdd l u (corner_at ps) (length ps)
  add-corners =
      let a = vs-ms share l u ps es in
      let b = ms-all share l u ps es in
      record {
        usable = f.usable;
        some = f.valid.some;
        few = f.valid.few;
        ranged = λ j h. point_in_lem (get_or ps j origin) (f.valid.corner j h);
        fits = omega (arith, f.fits, a, b);
        room = omega (arith, f.room, a, b);
      }

  -- the corners are added: m with v nodes, their numbers in the list vs, of which ks is the front
  module _ {os : List ℕ} {m : List Float} {v : ℕ} {vs ks : List ℕ} (s : Adds l u (corner_at ps) (length ps) os m v vs) (k : ks ≡ take (length ps) vs) where
    after-corners : Usable m v
    after-corners = adding.usable add-corners s (le_refl (length ps))

    pub many : length ks ≡ length ps
    many = ap length k ∙ length-take-le (length ps) vs (omega (arith, s.long, f.valid.few))

    pub ends : length ps ≡ length ks
    ends = sym many

    ks-is : ks ≡ (Vs share l u ps es).numbers
    ks-is = k ∙ s.numbers

    pub listed : ListedTo v ks (length ks)
    listed j h =
        let g : j < length ps = omega (arith, h, many) in
        subst (λ (i : ℕ). i < v) (sym (ap (λ (xs : List ℕ). get_or xs j 0) k ∙ get_or-take (length ps) vs j 0 g)) (adding.listed s j g)

    end-ranged : (i : ℕ) → InRange (end_at m v ks (length ks) i)
    end-ranged i =
        let h : i % length ks < length ks = mod-lt i (omega (arith, many, f.valid.some)) in
        let k : get_or (take (length ks) ks) (i % length ks) 0 < v =
        subst (λ (k : ℕ). k < v) (sym (get_or-take (length ks) ks (i % length ks) 0 h)) (listed (i % length ks) h) in
        subst InRange (sym (node_in m v (get_or (take (length ks) ks) (i % length ks) 0) k))
        (after-corners.ranged (get_or (take (length ks) ks) (i % length ks) 0) k)

    vs-now : nodes_in m v ≡ (Vs share l u ps es).nodes
    vs-now = adding.now-is s

    end_is : (i : ℕ) → end_at m v ks (length ks) i ≡ end share l u ps es i
    end_is i = λ j. node_at (vs-now j) (get_or ((take_all (length ks) ks (le_refl (length ks)) ∙ ks-is) j) (i % many j) 0)

    ms-is : add_nodes (nodes_in m v) (middle_at share m v ks es (length ks)) (length ks) ≡ Ms share l u ps es
    ms-is =
        λ j. add_nodes (vs-now j) (λ i. edge_middle share (get_or (take (many j) es) i Straight) (end_is i j) (end_is (suc i) j))
        (many j)

    pub add-middles : CanAdd m v (middle_at share m v ks es (length ks)) (length ks)
    add-middles =
        let a = ap (λ (e : Added). length e.nodes) ms-is in
        let b = ms-all share l u ps es in
        record {
          usable = after-corners;
          some = omega (arith, many, f.valid.some);
          few = omega (arith, many, f.valid.few);
          ranged = λ j h.
              edge_by share InRange (get_or (take (length ks) es) j Straight) (end_at m v ks (length ks) j)
              (end_at m v ks (length ks) (suc j))
              (unfold middle in middle_in_lem (end_at m v ks (length ks) j) (end_at m v ks (length ks) (suc j)) (end-ranged j) (end-ranged (suc j)))
              (λ q e. f.valid.snap j q (omega (arith, h, many)) (ap (λ (n : ℕ). get_or (take n es) j Straight) (sym many) ∙ e));
          fits = omega (arith, a, f.fits, b);
          room = omega (arith, a, adding.same_size add-corners s (le_refl (length ps)), f.room, b);
        }

    -- the middles are added: m' with w nodes, their numbers in the list ws, of which ls is the front
    module _ {os' : List ℕ} {m' : List Float} {w : ℕ} {ws ls : List ℕ}
        (t : Adds m v (middle_at share m v ks es (length ks)) (length ks) os' m' w ws) (g : ls ≡ take (length ps) ws)
      where
        pub after-middles : Usable m' w
        after-middles = adding.usable add-middles t (le_refl (length ks))

        pub as-many : length ls ≡ length ps
        as-many = ap length g ∙ length-take-le (length ps) ws (omega (arith, t.long, f.valid.few))

        ls-is : ls ≡ (Ms share l u ps es).numbers
        ls-is = g ∙ ap (λ (n : ℕ). take n ws) (sym many) ∙ t.numbers ∙ ap (λ (e : Added). e.numbers) ms-is

        pub corner-room : (j : ℕ) → j < length ks → get_or ks j 0 * 2 + 2 ≤ length m'
        corner-room j h = omega (arith, listed j h, after-middles.room, adding.used-more add-middles t)

        -- a corner, read from the list as it is now
        corner-is : (i : ℕ) → i < length ks → node_in_of m' (get_or ks i 0) ≡ end_at m v ks (length ks) i
        corner-is i h = adding.read t (get_or ks i 0) (listed i h) ∙ ap (node_at (nodes_in m v)) (turns.here ks (length ks) i h)

        centre-is : mean (λ i. node_in_of m' (get_or ks i 0)) (length ks) ≡ mean (end_at m v ks (length ks)) (length ks)
        centre-is = mean_ext (λ i. node_in_of m' (get_or ks i 0)) (end_at m v ks (length ks)) (length ks) corner-is

        ms-now : nodes_in m' w ≡ (Ms share l u ps es).nodes
        ms-now = adding.now-is t ∙ ap (λ (e : Added). e.nodes) ms-is

        -- the centre p
        module _ {p : Point} (c : p ≡ mean (λ i. node_in_of m' (get_or ks i 0)) (length ks)) where
          pub centre-ranged : InRange p
          centre-ranged =
              subst InRange (sym (c ∙ centre-is))
              (mean-ranged (end_at m v ks (length ks)) (length ks) (omega (arith, many, f.valid.some)) (omega (arith, many, f.valid.few)) (λ i h. end-ranged i))

          p-is : p ≡ mean (end share l u ps es) (length ps)
          p-is = c ∙ centre-is ∙ (λ j. mean (λ i. end_is i j) (many j))

          all-is : add_node (nodes_in m' w) p ≡ (A share l u ps es).nodes
          unfolding add_nodes attempt
          all-is = λ j. add_node (ms-now j) (p-is j)

          pub centre-room : length (add_node (nodes_in m' w) p) * 2 ≤ length m'
          centre-room =
              omega (
                arith,
                ap length all-is,
                f.room,
                adding.same_size add-middles t (le_refl (length ks)),
                adding.same_size add-corners s (le_refl (length ps)),
              )

          -- it is added: m'', and r
          module _ {r : Placed} {m'' : List Float} (er : r ≡ placed (nodes_in m' w) p) (em : m'' ≡ over m' (add_node (nodes_in m' w) p)) where
            r-is : r ≡ placed (Ms share l u ps es).nodes (mean (end share l u ps es) (length ps))
            r-is = er ∙ (λ j. placed (ms-now j) (p-is j))

            nodes-is : m'' ≡ over l (A share l u ps es).nodes
            unfolding add_nodes attempt
            nodes-is =
                em
                ∙ (λ j. over (t.nodes j) (all-is j))
                ∙ (λ j. over (over (s.nodes j) (ms-is j).nodes) (A share l u ps es).nodes)
                ∙ ap (λ (x : List Float). over x (A share l u ps es).nodes)
                (over-over l (Vs share l u ps es).nodes (Ms share l u ps es).nodes (vs-ms share l u ps es))
                ∙ over-over l (Ms share l u ps es).nodes (A share l u ps es).nodes (ms-all share l u ps es)

            cells_is : cells_to r.number ls ks (length ls) ≡ (A share l u ps es).cells
            unfolding add_nodes attempt
            cells_is = λ j. cells_to (r-is j).number (ls-is j) (ks-is j) (as-many j)

            pub used-is : r.used ≡ length (A share l u ps es).nodes
            unfolding add_nodes attempt
            used-is = ap (λ (r : Placed). r.used) r-is

            all-now : nodes_in m'' r.used ≡ (A share l u ps es).nodes
            all-now = (λ j. nodes_in (nodes-is j) (used-is j)) ∙ in_over l (A share l u ps es).nodes

            pub centre-listed : r.number < r.used
            centre-listed =
                subst (λ (r : Placed). r.number < r.used) (sym r-is)
                (add_node-number (Ms share l u ps es).nodes (mean (end share l u ps es) (length ps))).low

            pub used-room : r.used * 2 ≤ length m''
            used-room = omega (arith, used-is, ap length nodes-is ∙ length_over l (A share l u ps es).nodes f.room, f.room)

            more : w ≤ r.used
            more = omega (arith, ap (λ (r : Placed). r.used) er, (add_node-grown {P = Anything} (nodes_in m' w) p tt).longer, length_in m' w)

            -- the round of the cells
            pub middles-listed : ListedTo r.used ls (length ls)
            middles-listed j h =
                let i : j < length ps = omega (arith, h, as-many) in
                let b = adding.listed t j (omega (arith, i, many)) in
                subst (λ (k : ℕ). k < r.used) (sym (ap (λ (xs : List ℕ). get_or xs j 0) g ∙ get_or-take (length ps) ws j 0 i)) (omega (arith, b, more))

            pub corners-listed : ListedTo r.used ks (length ls)
            corners-listed j h = omega (arith, listed j (omega (arith, h, many, as-many)), adding.used-more add-middles t, more)

            -- the rim marks: rs before, qs after
            pub used-up : u ≤ r.used
            used-up = omega (arith, adding.used-more add-corners s, adding.used-more add-middles t, more)

            asks-is : (o : ℕ → Bool)
                → asks_for (take (length ls) ks) (take (length ls) ls) r.number o (length ls)
                ≡ attempt_asks share (nodes_in l u) ps (mark_at (part ps es)) o
            unfolding add_nodes attempt_asks
            asks-is o =
                let a : take (length ls) ks ≡ ks = take_all (length ls) ks (omega (arith, many, as-many)) in
                let b : take (length ls) ls ≡ ls = take_all (length ls) ls (le_refl (length ls)) in
                λ j. asks_for ((a ∙ ks-is) j) ((b ∙ ls-is) j) (r-is j).number o (as-many j)

            rims-are : (bs : List Bool) (rs : List ℕ) {qs : List ℕ}
                → qs ≡ rims_by u r.used (asks_for (take (length ls) ks) (take (length ls) ls) r.number (side_at bs)
                (length ls)) rs
                → qs ≡ rims_by u (length (attempt_in share l u (part ps es)).nodes) (attempt_asks_in share l u (part ps es) bs) rs
            rims-are bs rs e =
                e ∙ (λ j. rims_by u (used-is j) (asks-is (side_at bs) j) rs)

            -- what the function answers
            pub answer : (q : List ℕ) (bs : List Bool) (rs : List ℕ) {b : Bool} {k : Option ℕ} {q' qs : List ℕ}
                → b ≡ any (far_at share m v ks es (length ks)) (length ks)
                → k ≡ below (length ls) (first (λ k. not (holds (nodes_in m'' r.used)
                (get_or (cells_to r.number ls ks (length ls)) k no_cell))) (length ls) 0)
                → q' ≡ over_cells q (cells_to r.number ls ks (length ls))
                → qs ≡ rims_by u r.used (asks_for (take (length ls) ks) (take (length ls) ls) r.number (side_at bs)
                (length ls)) rs
                → (◌≡◌ {A = Tried} (record { used = r.used; fails = k; far = b }) (tried_of (attempt_in share l u (part ps es))))
                × (m'' ≡ over l (attempt_in share l u (part ps es)).nodes) × (q' ≡ over_cells q (attempt_in share l u (part ps es)).cells)
                × (qs ≡ rims_by u (length (attempt_in share l u (part ps es)).nodes) (attempt_asks_in share l u (part ps es) bs) rs)
            unfolding attempt
            answer q bs rs {b} {k} {q'} eb ek eq et =
                let eb' : b ≡ (A share l u ps es).far =
                eb
                ∙ (λ j.
                any (λ i. too_far share (get_or (take (many j) es) i Straight) (end_is i j) (end_is (suc i) j)) (many j)) in
                let size : length ls ≡ length (A share l u ps es).cells = sym (cells-length r.number ls ks (length ls)) ∙ ap length cells_is in
                let first-is : first (λ k. not (holds (nodes_in m'' r.used) (get_or (cells_to r.number ls ks (length ls)) k no_cell))) (length ls) 0
                ≡ (A share l u ps es).fails =
                λ j. first (λ k. not (holds (all-now j) (get_or (cells_is j) k no_cell))) (as-many j) 0 in
                let ek' : k ≡ below (length (A share l u ps es).cells) (A share l u ps es).fails =
                ek ∙ (λ j. below (size j) (first-is j)) in (
                  λ j. record { used = used-is j; fails = ek' j; far = eb' j },
                  nodes-is,
                  eq ∙ ap (over_cells q) cells_is,
                  rims-are bs rs et,
                )
