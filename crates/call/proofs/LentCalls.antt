-- Demand 3, of lists of calls (`lent-calls`). Take any list of calls, of all entries in any mixture, each with its own set of limits, ring, chain or marks,
-- sheet size, cell list and cell count, accepted or refused, also with rings or chains of odd length; from a node list of count zero, whatever its doubles
-- and marks are; each gets the nodes, the node count and the marks that the one before left. At the end
--   every node that was listed after any of the calls still has its number and every bit;
--   no two listed nodes share a key, so that a point with a listed node's key gets that node's number;
--   every listed node is finite and within 1,024 mm;
--   the list has its length, the used nodes are in it, and each call has added at most 2n + c + 2s + 1 nodes;
--   Card 12: the mark of a used node is 1 exactly if some call asked for the node as a corner or as the middle of a ring edge, and 0 else, whatever the marks
--   were before the first call; each used node was asked for; a set mark stays set; a call that is refused, other than with 8, changes no mark; the marks
--   past the used count are as found.
-- It is one claim over the list as a whole: specs/LentCalls.LentCalls.
use Prim.Native.Nat.{ℕ, zero, suc, ◌+◌, ◌*◌, ◌/◌, ◌≤◌, ◌<◌, zero-le}
use native.Mathlib.Nat.{le_refl, not-suc-le-zero, div-mul-le_self}
use native.Mathlib.Decide.{dec_lt}
use native.Mathlib.Omega.{arith}
use mathlib.Core.Path.{◌≡◌, refl, sym, ap, ◌∙◌, subst}
use mathlib.Core.Bool.{Bool, false, cond}
use mathlib.Core.List.Memᴰ
use mathlib.Core.List.{List, [], ◌∷◌, ◌++◌}
use lib.ListN.{length, get_or, take, drop}
use lib.Seq.{ext_get_or, get_or-take, length-take-le}
use lib.Ieee.{Float}
use Rattle.laws.specs.All.{All}
use Rattle.laws.proofs.Lists.{all_append, all-weaken}
use Rattle.vector.specs.declared.Point.{Point}
use Rattle.marks.specs.Part.{Part}
use Rattle.limits.specs.declared.Limits.{Limits}
use Rattle.nodes.specs.Nodes.{no_node, number}
use Rattle.nodes.specs.Flat.{node_in_of, nodes_in}
use Rattle.nodes.specs.Growth.{◌≈◌, Grown, Anything, EachNode, InRange, DistinctKeys}
use Rattle.nodes.proofs.SameKey.{≈-sym, ≈-trans, ≈-of}
use Rattle.nodes.proofs.Numbers.{number_at, number-least}
use Rattle.nodes.proofs.Growth.{grown_refl, grown_trans, grown_distinct}
use Rattle.nodes.proofs.Flat.{length_in, node_in, in_over, length_over}
use Rattle.quads.specs.declared.Cell.{Cell}
use Rattle.cells.specs.Asks.{Ask}
use Rattle.cells.specs.Rims.{rims_by, AskedFor, RimMark}
use Rattle.cells.proofs.Rims.{rims-none, rims_then, rims_length, rims-told, rims-stay, rims-past}
use Rattle.limits.specs.Sets.{practice_set}
use Rattle.call.specs.Call.{Lists, Call, lists_of, over24, no_test}
use Rattle.call.specs.Divide.{CallAnswer, asked, start_of}
use Rattle.call.specs.Lent.{call_by, tests_for, divide_for, divide_lent, divide_records, divide_practice, all_cells, lent_lists}
use Rattle.call.specs.Marked.{all_points, marked_lists, marked_start, marked_tests, divide_marked}
use Rattle.call.specs.LentCalls.{Given, GivenMarked, LentCall, numbers, records, marked, practice, Pool, empty, lend, lend_marked, answer_of}
use Rattle.call.specs.LentCalls.{leaves, run, start_in, limits_of, allowance, laid_out, asks_of, asks_over, LentCalls}
use Rattle.call.proofs.Course.{prepared_by}
use Rattle.call.proofs.Marked.{marked-prepared_if}
use Rattle.call.proofs.RimList.{asks_by, RimsLeft, rims-left_by}
use Rattle.call.proofs.NodeList.{used_after, NodesLeft, nodes-left_by}

-- the first n of the nodes in m places
pub take-nodes : (l : List Float) (n m : ℕ) → n ≤ m → take n (nodes_in l m) ≡ nodes_in l n
take-nodes l n m h =
    let e : length (take n (nodes_in l m)) ≡ n = length-take-le n (nodes_in l m) (omega (arith, length_in l m)) in
    ext_get_or no_node (take n (nodes_in l m)) (nodes_in l n) (e ∙ sym (length_in l n))
    (λ i k. let q : i < n = omega (arith, e, k) in get_or-take n (nodes_in l m) i no_node q ∙ node_in l m i (omega (arith, q, h)) ∙ sym (node_in l n i q))

-- ---- from one pool to a later one
abbrev used : Pool → List Point
used s = nodes_in s.doubles s.count

abbrev Holds : Pool → Type 0
Holds s = s.count * 2 ≤ length s.doubles

record Onward (s t : Pool) : Type 0 where
  pub grown : Grown Anything (used s) (used t)
  pub same_length : length t.doubles ≡ length s.doubles
  pub holds : Holds t
  pub ranged : EachNode InRange (used s) → EachNode InRange (used t)

stay : (s : Pool) → Holds s → Onward s s
stay s h = record { grown = grown_refl (used s); same_length = refl; holds = h; ranged = λ r. r }

after : {s t u : Pool} → Onward s t → Onward t u → Onward s u
after g h =
    record {
      grown = grown_trans g.grown h.grown;
      same_length = h.same_length ∙ g.same_length;
      holds = h.holds;
      ranged = λ k. h.ranged (g.ranged k);
    }

-- the marks, where qs was asked for on the way
record Marked (s t : Pool) (qs : List Ask) : Type 0 where
  pub longer : s.count ≤ t.count
  pub rims : t.rims ≡ rims_by s.count t.count qs s.rims
  pub listed : All (λ (q : Ask). q.node < t.count) qs
  pub cover : (k : ℕ) → s.count ≤ k → k < t.count → AskedFor qs k
  pub beside : s.count ≤ length s.rims → t.count ≤ length t.rims

marks_stay : (s : Pool) → Marked s s []
marks_stay s =
    record {
      longer = le_refl s.count;
      rims = sym (rims-none s.count s.rims);
      listed = tt;
      cover = λ k a b. absurd (omega (arith, a, b));
      beside = λ h. h;
    }

asked-left : (qs ss : List Ask) (k : ℕ) → AskedFor qs k → AskedFor (qs ++ ss) k
asked-left qs ss k h = record { ask = h.ask; one = Memᴰ.append_left ss h.one; for = h.for }

asked-right : (qs ss : List Ask) (k : ℕ) → AskedFor ss k → AskedFor (qs ++ ss) k
asked-right qs ss k h = record { ask = h.ask; one = Memᴰ.append_right qs h.one; for = h.for }

marks-after : {s t u : Pool} (qs ss : List Ask) → Marked s t qs → Marked t u ss → Marked s u (qs ++ ss)
marks-after {s} {t} {u} qs ss g h =
    record {
      longer = omega (arith, g.longer, h.longer);
      rims =
          h.rims ∙ ap (rims_by t.count u.count ss) g.rims
          ∙ rims_then s.count t.count u.count qs ss s.rims g.longer h.longer g.listed;
      listed =
          all_append (λ (q : Ask). q.node < u.count) qs ss
          (all-weaken (λ (q : Ask). q.node < t.count) (λ (q : Ask). q.node < u.count) (λ q l. omega (arith, l, h.longer)) qs g.listed) h.listed;
      cover = cover;
      beside = λ b. h.beside (g.beside b);
    }
  where
    cover : (k : ℕ) → s.count ≤ k → k < u.count → AskedFor (qs ++ ss) k
    cover k a b = go (dec_lt k t.count)
      where
        go : Dec (k < t.count) → AskedFor (qs ++ ss) k
        go (yes l) = asked-left qs ss k (g.cover k a l)
        go (no l) = asked-right qs ss k (h.cover k (omega arith) b)

-- ---- one call, of any entry: the lists that it lends are read as nodes, and the answer's nodes go back over the doubles
module _ (s : Pool) (h : Holds s) (a : CallAnswer) where
  abbrev l : List Float
  l = s.doubles

  abbrev t : Pool
  t = leaves s a

  -- nodes over all places of the list
  module _ (p : length a.nodes ≡ length l / 2) (f : a.row.nodes ≤ length a.nodes) where
    back-length : length t.doubles ≡ length l
    back-length = length_over l a.nodes (rw p (div-mul-le_self (length l) 2))

    back-nodes : nodes_in t.doubles (length l / 2) ≡ a.nodes
    back-nodes = rw (← p) (in_over l a.nodes)

    used-after : used t ≡ used_after a
    used-after = sym (take-nodes t.doubles t.count (length l / 2) (omega (arith, p, f))) ∙ ap (take t.count) back-nodes

-- the lists that the pool and the cells cs stand for, k of them used
abbrev lists : Pool → List Cell → ℕ → Lists
lists s cs k = lent_lists s.doubles s.count s.rims cs k

module _ (L : Limits) (p : Part) (s : Pool) (h : Holds s) (cs : List Cell) (k : ℕ) (a : CallAnswer) (left : NodesLeft L p (lists s cs k) a) where
  used-before : take s.count (nodes_in s.doubles (length s.doubles / 2)) ≡ used s
  used-before = take-nodes s.doubles s.count (length s.doubles / 2) (omega (arith, h))

  called : Onward s (leaves s a)
  called =
      let n = length_in s.doubles (length s.doubles / 2) in
      let p = left.places ∙ n in
      let f = left.fits (omega (arith, h, n)) in
      let e = used-after s h a p f in
      record {
        grown = subst (λ (ns : List Point). Grown Anything ns (used (leaves s a))) used-before (rw e left.grown);
        same_length = back-length s h a p f;
        holds = omega (arith, back-length s h a p f, p, f);
        ranged = λ r. rw e (left.ranged (rw used-before r));
      }

  -- and its marks, by what it asked for
  asks-same : asks_by L p (lists s cs k) a ≡ cond (laid_out a.row.code) (asked L p (used s)) []
  asks-same = ap (λ (ns : List Point). cond (laid_out a.row.code) (asked L p ns) []) used-before

  called_marks : RimsLeft L p (lists s cs k) a → Marked s (leaves s a) (cond (laid_out a.row.code) (asked L p (used s)) [])
  called_marks m =
      record {
        longer = omega (arith, called.grown.longer, length_in s.doubles s.count, length_in (leaves s a).doubles a.row.nodes);
        rims = m.rims ∙ ap (λ (qs : List Ask). rims_by s.count a.row.nodes qs s.rims) asks-same;
        listed = subst (All (λ (q : Ask). q.node < a.row.nodes)) asks-same m.listed;
        cover = λ k u v. subst (λ (qs : List Ask). AskedFor qs k) asks-same (m.cover k u v);
        beside = m.beside;
      }

-- what each entry leaves: by a chain, and by given marks
module _ {A : Type 0} (own : ℕ → ℕ → Bool) (read : List A → List Cell) (L : Limits) (s : Pool) (g : Given A) where
  abbrev c : Call
  c = call_by read (lend s g)

  left_by : NodesLeft L (start_of c) (lists_of c) (divide_for own read L (lend s g))
  left_by = nodes-left_by L (length c.ring) (start_of c) (lists_of c) (tests_for own read L (lend s g)) tt (λ k. prepared_by own L c k.1)

  rims_by_lem : RimsLeft L (start_of c) (lists_of c) (divide_for own read L (lend s g))
  rims_by_lem = rims-left_by L (length c.ring) (start_of c) (lists_of c) (tests_for own read L (lend s g)) tt (λ k. prepared_by own L c k.1)

left-marked : (s : Pool) (g : GivenMarked) → let l = lend_marked s g in NodesLeft g.limits (marked_start l) (marked_lists l) (divide_marked g.limits l)
unfolding divide_marked
left-marked s g =
    let l = lend_marked s g in
    nodes-left_by g.limits (length (all_points l.ring)) (marked_start l) (marked_lists l) (marked_tests g.limits l) tt (marked-prepared_if g.limits l)

rims-marked : (s : Pool) (g : GivenMarked) → let l = lend_marked s g in RimsLeft g.limits (marked_start l) (marked_lists l) (divide_marked g.limits l)
unfolding divide_marked
rims-marked s g =
    let l = lend_marked s g in
    rims-left_by g.limits (length (all_points l.ring)) (marked_start l) (marked_lists l) (marked_tests g.limits l) tt (marked-prepared_if g.limits l)

-- a case an entry
step : (s : Pool) → Holds s → (g : LentCall) → Onward s (leaves s (answer_of s g))
unfolding divide_lent divide_records divide_practice
step s h (numbers g) =
    called g.limits (start_in (numbers g)) s h (all_cells g.cells) g.cell_count_of (answer_of s (numbers g)) (left_by no_test all_cells g.limits s g)
step s h (records g) =
    called g.limits (start_in (records g)) s h g.cells g.cell_count_of (answer_of s (records g)) (left_by no_test (λ cs. cs) g.limits s g)
step s h (marked g) = called g.limits (start_in (marked g)) s h (all_cells g.cells) g.cell_count_of (answer_of s (marked g)) (left-marked s g)
step s h (practice g) =
    called practice_set (start_in (practice g)) s h (all_cells g.cells) g.cell_count_of (answer_of s (practice g)) (left_by over24 all_cells practice_set s g)

marks : (s : Pool) → Holds s → (g : LentCall) → Marked s (leaves s (answer_of s g)) (asks_of s g)
unfolding divide_lent divide_records divide_practice asks_of
marks s h (numbers g) =
    called_marks g.limits (start_in (numbers g)) s h (all_cells g.cells) g.cell_count_of (answer_of s (numbers g)) (left_by no_test all_cells g.limits s g)
    (rims_by_lem no_test all_cells g.limits s g)
marks s h (records g) =
    called_marks g.limits (start_in (records g)) s h g.cells g.cell_count_of (answer_of s (records g)) (left_by no_test (λ cs. cs) g.limits s g)
    (rims_by_lem no_test (λ cs. cs) g.limits s g)
marks s h (marked g) =
    called_marks g.limits (start_in (marked g)) s h (all_cells g.cells) g.cell_count_of (answer_of s (marked g)) (left-marked s g) (rims-marked s g)
marks s h (practice g) =
    called_marks practice_set (start_in (practice g)) s h (all_cells g.cells) g.cell_count_of (answer_of s (practice g))
    (left_by over24 all_cells practice_set s g) (rims_by_lem over24 all_cells practice_set s g)

most : (s : Pool) → Holds s → (g : LentCall) → (answer_of s g).row.nodes ≤ s.count + allowance (limits_of g) (start_in g)
unfolding divide_lent divide_records divide_practice
most s h (numbers g) = (left_by no_test all_cells g.limits s g).adds
most s h (records g) = (left_by no_test (λ cs. cs) g.limits s g).adds
most s h (marked g) = (left-marked s g).adds
most s h (practice g) = (left_by over24 all_cells practice_set s g).adds

kept : (s : Pool) (g : LentCall) → laid_out (answer_of s g).row.code ≡ false → (answer_of s g).rims ≡ s.rims
unfolding divide_lent divide_records divide_practice
kept s (numbers g) = (rims_by_lem no_test all_cells g.limits s g).kept
kept s (records g) = (rims_by_lem no_test (λ cs. cs) g.limits s g).kept
kept s (marked g) = (rims-marked s g).kept
kept s (practice g) = (rims_by_lem over24 all_cells practice_set s g).kept

-- ---- a list of calls
abbrev next : Pool → LentCall → Pool
next s g = leaves s (answer_of s g)

all : (s : Pool) → Holds s → (gs : List LentCall) → Onward s (run s gs)
all s h [] = stay s h
all s h (g ∷ gs) = let o = step s h g in after o (all (next s g) o.holds gs)

all-marks : (s : Pool) → Holds s → (gs : List LentCall) → Marked s (run s gs) (asks_over s gs)
all-marks s h [] = marks_stay s
all-marks s h (g ∷ gs) = marks-after (asks_of s g) (asks_over (next s g) gs) (marks s h g) (all-marks (next s g) (step s h g).holds gs)

-- from what the first i calls left to the end
rest : (s : Pool) → Holds s → (gs : List LentCall) (i : ℕ) → Onward (run s (take i gs)) (run s gs)
rest s h gs zero = all s h gs
rest s h [] (suc i) = stay s h
rest s h (g ∷ gs) (suc i) = rest (next s g) (step s h g).holds gs i

rest-marks : (s : Pool) → Holds s → (gs : List LentCall) (i : ℕ) → Marked (run s (take i gs)) (run s gs) (asks_over (run s (take i gs)) (drop i gs))
rest-marks s h gs zero = all-marks s h gs
rest-marks s h [] (suc i) = marks_stay s
rest-marks s h (g ∷ gs) (suc i) = rest-marks (next s g) (step s h g).holds gs i

refused_keeps : (s : Pool) (gs : List LentCall) (i : ℕ) (d : LentCall) → i < length gs
    → laid_out (answer_of (run s (take i gs)) (get_or gs i d)).row.code ≡ false → (run s (take (suc i) gs)).rims ≡ (run s (take i gs)).rims
refused_keeps s [] i d l e = absurd (not-suc-le-zero l)
refused_keeps s (g ∷ gs) zero d l e = kept s g e
refused_keeps s (g ∷ gs) (suc i) d l e = refused_keeps (next s g) gs i d (omega (arith, l)) e

adds : (s : Pool) → Holds s → (gs : List LentCall) (i : ℕ) (d : LentCall) → i < length gs
    → (run s (take (suc i) gs)).count ≤ (run s (take i gs)).count + allowance (limits_of (get_or gs i d)) (start_in (get_or gs i d))
adds s h [] i d l = absurd (not-suc-le-zero l)
adds s h (g ∷ gs) zero d l = most s h g
adds s h (g ∷ gs) (suc i) d l = adds (next s g) (step s h g).holds gs i d (omega (arith, l))

-- ---- the used nodes by their places
module _ (s : Pool) where
  in_use : (k : ℕ) → k < s.count → k < length (used s)
  in_use k l = omega (arith, length_in s.doubles s.count)

  of_use : (k : ℕ) → k < length (used s) → k < s.count
  of_use k l = omega (arith, length_in s.doubles s.count)

-- ---- the claim
pub lent-calls : (l : List Float) (rs : List ℕ) (gs : List LentCall) → LentCalls l rs gs
lent-calls l rs gs =
    record {
      stay = λ i k h.
          let s = run (empty l rs) (take i gs) in
          let o = rest (empty l rs) none gs i in
          let u = in_use s k h in
          let v = of_use t k (omega (arith, u, o.grown.longer)) in
          (v, sym (node_in t.doubles t.count k v) ∙ o.grown.same k u ∙ node_in s.doubles s.count k h);
      apart =
          λ j k h i e. distinct j k (in_use t j h) (in_use t k i)
          (≈-trans (≈-of (node_in t.doubles t.count j h)) (≈-trans e (≈-of (sym (node_in t.doubles t.count k i)))));
      numbered = numbered;
      ranged =
          λ k h. subst InRange (node_in t.doubles t.count k h)
          ((all (empty l rs) none gs).ranged (λ i u. absurd (omega (arith, u, length_in l 0))) k (in_use t k h));
      same_length = (all (empty l rs) none gs).same_length;
      fits = omega (arith, (all (empty l rs) none gs).holds, (all (empty l rs) none gs).same_length);
      adds = adds (empty l rs) none gs;
      told =
          λ k h. subst (λ (ms : List ℕ). RimMark (asks_over (empty l rs) gs) k (get_or ms k 0)) (sym m.rims)
          (rims-told t.count (asks_over (empty l rs) gs) rs k h many);
      asked_for = λ k h. m.cover k zero-le h;
      set_stays = λ i k h e.
          let s = run (empty l rs) (take i gs) in
          let o = rest-marks (empty l rs) none gs i in
          let room = (all-marks (empty l rs) none (take i gs)).beside zero-le in
          rw o.rims (rims-stay s.count t.count (asks_over s (drop i gs)) s.rims k h (omega (arith, h, room)) e);
      refused_keeps = refused_keeps (empty l rs) gs;
      rims_length = same;
      past = λ k h. rw m.rims (rims-past 0 t.count (asks_over (empty l rs) gs) rs k m.listed h);
    }
  where
    t : Pool
    t = run (empty l rs) gs

    none : Holds (empty l rs)
    none = zero-le

    m : Marked (empty l rs) t (asks_over (empty l rs) gs)
    m = all-marks (empty l rs) none gs

    same : length t.rims ≡ length rs
    same = ap length m.rims ∙ rims_length 0 t.count (asks_over (empty l rs) gs) rs

    many : t.count ≤ length rs
    many = omega (arith, m.beside zero-le, same)

    distinct : DistinctKeys (used t)
    distinct = grown_distinct (all (empty l rs) none gs).grown (λ i j u v e. absurd (omega (arith, u, length_in l 0)))

    numbered : (k : ℕ) (p : Point) → k < t.count → p ≈ node_in_of t.doubles k → number (used t) p ≡ k
    numbered k p h e =
        let d = ≈-trans e (≈-of (sym (node_in t.doubles t.count k h))) in
        let u = in_use t k h in
        let v : number (used t) p < length (used t) = omega (arith, u, number-least (used t) p k u d) in
        distinct (number (used t) p) k v u (≈-trans (≈-sym (number_at (used t) p v)) d)
