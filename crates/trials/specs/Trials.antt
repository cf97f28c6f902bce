-- 01, Rings for trial: those with a *, as the rows of one table, over the program's own lists: "one node list of 1,536 places", "its cell list has 124". Then
-- calls over lists that hold nodes and cells already. proofs/Trials proves that every row holds.
use Rattle.std.specs.Prelude.{ℕ, ◌*◌, ◌≡◌, Bool, true, false, List, [], ◌∷◌, ◌++◌, ℤ, pos, negsuc, ◌*ℤ◌, take, drop, replicate}
use Prim.Native.String.{String}
use Rattle.std.specs.Float.{binary64}
use Rattle.std.specs.Float.Ieee.{to_bits, of_bits}
use Rattle.vector.specs.declared.GridPoint.{GridPoint}
use Rattle.vector.specs.declared.Point.{Point}
use Rattle.root.specs.Root.{root_bits}
use Rattle.limits.specs.Limits.{delivered}
use Rattle.corner.specs.Corner.{measure, bad}
use Rattle.nodes.specs.Nodes.{no_node, node_at}
use Rattle.quads.specs.declared.Cell.{Cell}
use Rattle.quads.specs.Quads.{no_cell}
use Rattle.call.specs.Call.{Call, lists_of, entry}
use Rattle.call.specs.Divide.{CallAnswer, refused, divide}
use Rattle.text.specs.Text.{bytes}
use Rattle.job.specs.Run.{printed}

-- ---- the words of a row
-- a point in units of 1/8192 mm, and in whole mm; -n of a whole number n above 0 is `negsuc` of n - 1
abbrev pub units : ℤ → ℤ → GridPoint
units x y = record { x = x; y = y }

abbrev pub whole : ℤ → ℤ → GridPoint
whole x y = units (x *ℤ pos 8192) (y *ℤ pos 8192)

-- a ring and a chain over the program's lists, none of them used, sheet size 1
abbrev pub sized : ℕ → List GridPoint → List GridPoint → Call
sized size r c =
    record {
      ring = r;
      chain = c;
      size = size;
      nodes = replicate 1536 no_node;
      node_count_of = 0;
      rims = replicate 1536 0;
      cells = replicate 124 no_cell;
      cell_count_of = 0;
    }

abbrev pub fresh : List GridPoint → List GridPoint → Call
fresh r c = sized 1 r c

abbrev pub cell : ℕ → ℕ → ℕ → ℕ → Cell
cell a b c d = record { a = a; b = b; c = c; d = d }

-- what comes back: the table's number, n, c, s, pieces, turned area, area, k, nodes listed, cells listed
abbrev pub values : CallAnswer → List ℕ
values a = let v = a.row in v.code ∷ v.corners ∷ v.marked ∷ v.cuts ∷ v.pieces ∷ v.turned ∷ v.area ∷ v.k ∷ v.nodes ∷ v.cells ∷ []

-- the bits of nodes, x and y in turn
abbrev pub bits : List Point → List ℕ
bits [] = []
bits (p ∷ ps) = to_bits binary64 p.x ∷ to_bits binary64 p.y ∷ bits ps

abbrev pub new_cells : Call → CallAnswer → List Cell
new_cells c a = drop c.cell_count_of (take a.row.cells a.cells)

-- ---- a row: its input and what is expected
pub data Trial : Type 0 where
  -- the values that come back
  answers : Call → List ℕ → Trial
  -- the values, the bits of every used node, and the new cells
  gives : Call → List ℕ → List ℕ → List Cell → Trial
  -- node i has these bits
  node : Call → ℕ → ℕ → ℕ → Trial
  -- the number with which the call is refused, all as found
  refuses : Call → ℕ → Trial
  -- no test of the entry refuses the call
  enters : Call → Trial
  -- whether the corner between two steps is bad
  corner : GridPoint → GridPoint → Bool → Trial
  -- the root of a double, both by their bits
  root : ℕ → ℕ → Trial
  -- the values, the bits of every place of the node list, every rim mark, and every place of the cell list
  leaves : Call → List ℕ → List ℕ → List ℕ → List Cell → Trial
  -- every rim mark
  rims : Call → List ℕ → Trial
  -- the bytes that the program reads, and the text that it prints
  prints : List ℕ → String → Trial

-- a row holds
abbrev pub Holds : Trial → Type 0
Holds (answers c vs) = values (divide delivered c) ≡ vs
Holds (gives c vs bs ks) =
    (values (divide delivered c) ≡ vs) × (bits (take (divide delivered c).row.nodes (divide delivered c).nodes) ≡ bs)
    × (new_cells c (divide delivered c) ≡ ks)
Holds (node c i x y) = bits (node_at (divide delivered c).nodes i ∷ []) ≡ x ∷ y ∷ []
Holds (refuses c n) = divide delivered c ≡ refused (lists_of c) n
Holds (enters c) = entry delivered c ≡ 0
Holds (corner u v b) = bad delivered (measure u v) ≡ b
Holds (root x y) = root_bits x ≡ y
Holds (leaves c vs bs ts ks) =
    (values (divide delivered c) ≡ vs) × (bits (divide delivered c).nodes ≡ bs) × ((divide delivered c).rims ≡ ts) × ((divide delivered c).cells ≡ ks)
Holds (rims c ts) = (divide delivered c).rims ≡ ts
Holds (prints b t) = printed b ≡ bytes t

-- ---- the table
unfoldable pub square : Call
square = fresh (whole (pos 0) (pos 0) ∷ whole (pos 1) (pos 0) ∷ whole (pos 1) (pos 1) ∷ whole (pos 0) (pos 1) ∷ []) []

unfoldable pub dart : Call
dart = fresh (whole (negsuc 9) (pos 0) ∷ whole (pos 0) (pos 9) ∷ whole (pos 10) (pos 0) ∷ whole (pos 0) (pos 10) ∷ []) []

unfoldable pub thin : Call
thin = fresh (whole (negsuc 9) (pos 0) ∷ whole (pos 0) (pos 99) ∷ whole (pos 10) (pos 0) ∷ whole (pos 0) (pos 100) ∷ []) []

unfoldable pub snapped : Call
snapped =
    fresh (whole (pos 0) (pos 0) ∷ whole (pos 8) (pos 0) ∷ whole (pos 8) (pos 8) ∷ whole (pos 0) (pos 8) ∷ [])
    (whole (pos 0) (pos 0) ∷ units (pos 32768) (negsuc 4095) ∷ whole (pos 8) (pos 0) ∷ [])

unfoldable pub bow : Call
bow = fresh (whole (pos 0) (pos 0) ∷ whole (pos 2) (pos 2) ∷ whole (pos 2) (pos 0) ∷ whole (pos 0) (pos 2) ∷ []) []

unfoldable pub equal : Call
equal = fresh (replicate 3 (whole (pos 5) (pos 5))) []

unfoldable pub clockwise : Call
clockwise = fresh (whole (pos 0) (pos 0) ∷ whole (pos 0) (pos 1) ∷ whole (pos 1) (pos 1) ∷ whole (pos 1) (pos 0) ∷ []) []

unfoldable pub two : Call
two = fresh (whole (pos 0) (pos 0) ∷ whole (pos 1) (pos 0) ∷ []) []

-- a triangle with a corner at the coordinate n
unfoldable pub wide : ℕ → Call
wide n = fresh (units (pos n) (pos 0) ∷ units (pos 0) (pos 100) ∷ units (pos 0) (pos 0) ∷ []) []

-- the square's two blocks: kind, count, number, points, unused places, size, zeros, check
abbrev nil : List ℕ
nil = 0 ∷ 0 ∷ 0 ∷ 0 ∷ []

abbrev mm : List ℕ
mm = 0 ∷ 32 ∷ 0 ∷ 0 ∷ []

unfoldable pub square_blocks : List ℕ
square_blocks =
    (1 ∷ 4 ∷ 0 ∷ 0 ∷ []) ++ nil ++ nil ++ mm ++ nil ++ mm ++ mm ++ nil ++ mm ++ replicate 448 0 ++ (1 ∷ 0 ∷ []) ++ replicate 22 0 ++ (238 ∷ 13 ∷ 0 ∷ 0 ∷ []) ++
    (2 ∷ 0 ∷ 1 ∷ 0 ∷ []) ++ replicate 504 0 ++ (5 ∷ 0 ∷ 0 ∷ 0 ∷ [])

abbrev pub starred : List Trial
starred =
    -- the square, from its blocks to its six lines
    prints square_blocks "ring 0 corners 4 cuts 0 turned 0 area 100\nnodes 9 new 9\nquad 8 4 1 5\nquad 8 5 2 6\nquad 8 6 3 7\nquad 8 7 0 4\n" ∷
    -- the square: n 4, s 0, turned 0, 1 mm² (doubled, in units squared), 9 nodes, its cells
    gives square (0 ∷ 4 ∷ 0 ∷ 0 ∷ 1 ∷ 0 ∷ 2 * 8192 * 8192 ∷ 0 ∷ 9 ∷ 4 ∷ [])
    (0 ∷ 0 ∷ 0x3ff0_0000_0000_0000 ∷ 0 ∷ 0x3ff0_0000_0000_0000 ∷ 0x3ff0_0000_0000_0000 ∷ 0 ∷ 0x3ff0_0000_0000_0000 ∷ 0x3fe0_0000_0000_0000 ∷ 0
    ∷ 0x3ff0_0000_0000_0000 ∷ 0x3fe0_0000_0000_0000 ∷ 0x3fe0_0000_0000_0000 ∷ 0x3ff0_0000_0000_0000 ∷ 0 ∷ 0x3fe0_0000_0000_0000 ∷ 0x3fe0_0000_0000_0000
    ∷ 0x3fe0_0000_0000_0000 ∷ [])
    (cell 8 4 1 5 ∷ cell 8 5 2 6 ∷ cell 8 6 3 7 ∷ cell 8 7 0 4 ∷ [])
    -- s 1, 2 pieces, 6 cells, 11 nodes
    ∷ answers dart (0 ∷ 4 ∷ 0 ∷ 1 ∷ 2 ∷ 0 ∷ 20 * 8192 * 8192 ∷ 0 ∷ 11 ∷ 6 ∷ [])
    -- 8, corners 4, k 0; 9 nodes stay
    ∷ answers thin (8 ∷ 4 ∷ 0 ∷ 0 ∷ 0 ∷ 0 ∷ 0 ∷ 0 ∷ 9 ∷ 0 ∷ [])
    -- node 4 is (4, -0.5)
    ∷ node snapped 4 0x4010_0000_0000_0000 0xbfe0_0000_0000_0000
    -- steps (10,0), (10,3): bad; (10,0), (10,4): not
    ∷ corner (whole (pos 10) (pos 0)) (whole (pos 10) (pos 3)) true
    ∷ corner (whole (pos 10) (pos 0)) (whole (pos 10) (pos 4)) false
    ∷ refuses bow 6
    ∷ refuses equal 5
    ∷ refuses clockwise 7
    ∷ refuses two 1
    ∷ refuses (wide 8388609) 2
    ∷ enters (wide 8388608)
    -- root of 2; root of 2.25 is 1.5
    ∷ root 0x4000_0000_0000_0000 0x3ff6_a09e_667f_3bcd
    ∷ root 0x4002_0000_0000_0000 0x3ff8_0000_0000_0000
    ∷ []

-- ---- over lists that are in use
-- the node at x, y, by their bits
abbrev listed : ℕ → ℕ → Point
listed x y = record { x = of_bits binary64 x; y = of_bits binary64 y }

-- a triangle on a list of 14 places: two of its three used nodes have the key of a corner, and the first of them gives the corner its number and its bits.
-- The rim mark of that node is set and the other's is not. One of five cell places is used; what stands beyond the new nodes, marks and cells stays
unfoldable pub two_of_one_key : Call
two_of_one_key =
    record {
      ring = whole (pos 0) (pos 0) ∷ whole (pos 1) (pos 0) ∷ whole (pos 0) (pos 1) ∷ [];
      chain = [];
      size = 1;
      nodes =
          listed 0x3ff0_0000_0044_b830 0 ∷ listed 0x3ff0_0000_0000_0000 0 ∷ listed 0x4014_0000_0000_0000 0x4014_0000_0000_0000
          ∷ replicate 11 (listed 0x401c_0000_0000_0000 0x4020_0000_0000_0000);
      node_count_of = 3;
      rims = 0 ∷ 0 ∷ 1 ∷ replicate 11 7;
      cells = cell 9 9 9 9 ∷ replicate 4 (cell 5 6 7 8);
      cell_count_of = 1;
    }

-- 01's thin ring on lists in use: 8, and after the used cell the six places of its reserve are zero
unfoldable pub thin_in_use : Call
thin_in_use =
    record {
      ring = thin.ring;
      chain = [];
      size = 1;
      nodes = listed 0x4014_0000_0000_0000 0x4014_0000_0000_0000 ∷ replicate 16 (listed 0x401c_0000_0000_0000 0x4020_0000_0000_0000);
      node_count_of = 1;
      rims = 0 ∷ replicate 16 7;
      cells = cell 9 9 9 9 ∷ replicate 8 (cell 5 6 7 8);
      cell_count_of = 1;
    }

-- the dart of 01 on a list with a node at (0, 9.500000001): the middle of its cut is (0, 9.5), whose key that node has, so that the node is the middle in
-- both pieces
unfoldable pub middle_listed : Call
middle_listed =
    record {
      ring = dart.ring;
      chain = [];
      size = 1;
      nodes = listed 0 0x4023_0000_0008_9706 ∷ replicate 15 (listed 0 0);
      node_count_of = 1;
      rims = 0 ∷ replicate 15 7;
      cells = replicate 6 no_cell;
      cell_count_of = 0;
    }

abbrev pub in_use_of : List Trial
in_use_of =
    leaves two_of_one_key (0 ∷ 3 ∷ 0 ∷ 0 ∷ 1 ∷ 0 ∷ 8192 * 8192 ∷ 0 ∷ 9 ∷ 4 ∷ [])
    (0x3ff0_0000_0044_b830 ∷ 0 ∷ 0x3ff0_0000_0000_0000 ∷ 0 ∷ 0x4014_0000_0000_0000 ∷ 0x4014_0000_0000_0000 ∷ 0 ∷ 0 ∷ 0 ∷ 0x3ff0_0000_0000_0000
    ∷ 0x3fe0_0000_0044_b830 ∷ 0 ∷ 0x3fe0_0000_0044_b830 ∷ 0x3fe0_0000_0000_0000 ∷ 0 ∷ 0x3fe0_0000_0000_0000 ∷ 0x3fd5_5555_55b0_f595 ∷ 0x3fd5_5555_5555_5555
    ∷ 0x401c_0000_0000_0000 ∷ 0x4020_0000_0000_0000 ∷ 0x401c_0000_0000_0000 ∷ 0x4020_0000_0000_0000 ∷ 0x401c_0000_0000_0000 ∷ 0x4020_0000_0000_0000
    ∷ 0x401c_0000_0000_0000 ∷ 0x4020_0000_0000_0000 ∷ 0x401c_0000_0000_0000 ∷ 0x4020_0000_0000_0000 ∷ [])
    (1 ∷ 0 ∷ 1 ∷ 1 ∷ 1 ∷ 1 ∷ 1 ∷ 1 ∷ 0 ∷ replicate 5 7)
    (cell 9 9 9 9 ∷ cell 8 5 0 6 ∷ cell 8 6 4 7 ∷ cell 8 7 3 5 ∷ cell 5 6 7 8 ∷ []) ∷
    leaves thin_in_use (8 ∷ 4 ∷ 0 ∷ 0 ∷ 0 ∷ 0 ∷ 0 ∷ 0 ∷ 10 ∷ 1 ∷ [])
    (0x4014_0000_0000_0000 ∷ 0x4014_0000_0000_0000 ∷ 0xc024_0000_0000_0000 ∷ 0 ∷ 0 ∷ 0x4058_c000_0000_0000 ∷ 0x4024_0000_0000_0000 ∷ 0 ∷ 0
    ∷ 0x4059_0000_0000_0000 ∷ 0xc014_0000_0000_0000 ∷ 0x4048_c000_0000_0000 ∷ 0x4014_0000_0000_0000 ∷ 0x4048_c000_0000_0000 ∷ 0x4014_0000_0000_0000
    ∷ 0x4049_0000_0000_0000 ∷ 0xc014_0000_0000_0000 ∷ 0x4049_0000_0000_0000 ∷ 0 ∷ 0x4048_e000_0000_0000 ∷ 0x401c_0000_0000_0000 ∷ 0x4020_0000_0000_0000
    ∷ 0x401c_0000_0000_0000 ∷ 0x4020_0000_0000_0000 ∷ 0x401c_0000_0000_0000 ∷ 0x4020_0000_0000_0000 ∷ 0x401c_0000_0000_0000 ∷ 0x4020_0000_0000_0000
    ∷ 0x401c_0000_0000_0000 ∷ 0x4020_0000_0000_0000 ∷ 0x401c_0000_0000_0000 ∷ 0x4020_0000_0000_0000 ∷ 0x401c_0000_0000_0000 ∷ 0x4020_0000_0000_0000 ∷ [])
    (0 ∷ 1 ∷ 1 ∷ 1 ∷ 1 ∷ 1 ∷ 1 ∷ 1 ∷ 1 ∷ 0 ∷ replicate 7 7)
    (cell 9 9 9 9 ∷ replicate 6 no_cell ++ replicate 2 (cell 5 6 7 8)) ∷
    gives middle_listed (0 ∷ 4 ∷ 0 ∷ 1 ∷ 2 ∷ 0 ∷ 20 * 8192 * 8192 ∷ 0 ∷ 11 ∷ 6 ∷ [])
    (0 ∷ 0x4023_0000_0008_9706 ∷ 0 ∷ 0x4024_0000_0000_0000 ∷ 0xc024_0000_0000_0000 ∷ 0 ∷ 0 ∷ 0x4022_0000_0000_0000 ∷ 0xc014_0000_0000_0000
    ∷ 0x4014_0000_0000_0000 ∷ 0xc014_0000_0000_0000 ∷ 0x4012_0000_0000_0000 ∷ 0xc00a_aaaa_aaaa_aaab ∷ 0x4019_5555_5555_5555 ∷ 0x4024_0000_0000_0000 ∷ 0
    ∷ 0x4014_0000_0000_0000 ∷ 0x4012_0000_0000_0000 ∷ 0x4014_0000_0000_0000 ∷ 0x4014_0000_0000_0000 ∷ 0x400a_aaaa_aaaa_aaab ∷ 0x4019_5555_5555_5555 ∷ [])
    (cell 6 4 2 5 ∷ cell 6 5 3 0 ∷ cell 6 0 1 4 ∷ cell 10 8 7 9 ∷ cell 10 9 1 0 ∷ cell 10 0 3 8 ∷ []) ∷
    []

-- ---- 02, Card 12: the rim marks, which were 7 in every place that was not used
abbrev pub marking : List GridPoint → List GridPoint → List ℕ → ℕ → Call
marking r c ts u =
    record { ring = r; chain = c; size = 1; nodes = replicate 16 no_node; node_count_of = u; rims = ts; cells = replicate 8 no_cell; cell_count_of = 0 }

-- a piece that is done again: 3 is the snap point of the abandoned attempt, and 7 the straight middle of the same edge
unfoldable pub again : Call
again =
    marking (whole (pos 8) (pos 3) ∷ whole (pos 7) (pos 3) ∷ whole (pos 3) (pos 8) ∷ whole (pos 2) (pos 1) ∷ [])
    (whole (pos 2) (pos 1) ∷ whole (pos 4) (pos 2) ∷ whole (pos 8) (pos 3) ∷ []) (replicate 16 7) 0

abbrev pub rimmed : List Trial
rimmed =
    -- the dart, one cut: 5 is the middle of the cut, 6 and 10 are the centres
    rims (marking dart.ring [] (replicate 16 7) 0) (1 ∷ 1 ∷ 1 ∷ 1 ∷ 1 ∷ 0 ∷ 0 ∷ 1 ∷ 1 ∷ 1 ∷ 0 ∷ replicate 5 7) ∷
    -- 8: the marks made so far stay
    rims (marking thin.ring [] (replicate 16 7) 0) (1 ∷ 1 ∷ 1 ∷ 1 ∷ 1 ∷ 1 ∷ 1 ∷ 1 ∷ 0 ∷ replicate 7 7) ∷
    rims again (1 ∷ 1 ∷ 1 ∷ 1 ∷ 1 ∷ 0 ∷ 0 ∷ 1 ∷ 1 ∷ 1 ∷ 1 ∷ 0 ∷ replicate 4 7) ∷
    -- the listed node that the middle of the cut meets stays clear
    rims middle_listed (0 ∷ 1 ∷ 1 ∷ 1 ∷ 1 ∷ 1 ∷ 0 ∷ 1 ∷ 1 ∷ 1 ∷ 0 ∷ replicate 5 7) ∷
    -- fewer marks than node places; a used mark that is neither 0 nor 1
    refuses (marking dart.ring [] (replicate 15 0) 0) 3 ∷
    refuses (marking dart.ring [] (2 ∷ replicate 15 0) 1) 3 ∷
    []
