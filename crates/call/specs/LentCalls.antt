-- Demand 3, of lists of calls: "For every list of divider calls from an empty node list, refused calls included, where each gets the nodes and node count
-- that the one before left: at the end every node that was listed after any of the calls still has its number and every bit, and no two listed nodes share a
-- key." The calls are those of all entries, in any mixture, over one lent list of doubles, x and y in turn.
use Rattle.std.specs.Prelude.{ℕ, suc, ◌+◌, ◌*◌, ◌≤◌, ◌<◌, ◌≡◌, Bool, false, ◌||◌, cond, List, [], ◌∷◌, ◌++◌, length, get_or, take, eqb, ℤ, Float}
use Rattle.vector.specs.declared.Point.{Point}
use Rattle.marks.specs.Part.{Part, mark_count}
use Rattle.limits.specs.declared.Limits.{Limits}
use Rattle.split.specs.Split.{split_bad_vertices}
use Rattle.nodes.specs.Nodes.{number}
use Rattle.nodes.specs.Flat.{node_in_of, nodes_in, over}
use Rattle.nodes.specs.Growth.{◌≈◌, InRange}
use Rattle.quads.specs.declared.Cell.{Cell}
use Rattle.cells.specs.Asks.{Ask}
use Rattle.cells.specs.Rims.{AskedFor, RimMark}
use Rattle.call.specs.Divide.{CallAnswer, asked, start_of}
use Rattle.limits.specs.Sets.{practice_set}
use Rattle.call.specs.Lent.{LentOf, call_of, divide_lent, divide_practice, call_of_records, divide_records, lent}
use Rattle.call.specs.Marked.{Marking, LentMarked, marked_start, divide_marked, lent_marked}

-- "each brings its own ring, chain, sheet size, cell list and cell count": and the set of limits, which the practice entry does not look at
pub record Given (A : Type 0) : Type 0 where
  pub limits : Limits
  pub ring : List ℤ
  pub chain : List ℤ
  pub size : ℕ
  pub cells : List A
  pub cell_count_of : ℕ

-- the same where the marks are given in place of a chain
pub record GivenMarked : Type 0 where
  pub limits : Limits
  pub ring : List ℤ
  pub marking : Marking
  pub size : ℕ
  pub cells : List ℕ
  pub cell_count_of : ℕ

-- a call, a case for each entry: cells as numbers, or as records, with given marks, and the practice paper
pub data LentCall : Type 0 where
  numbers : Given ℕ → LentCall
  records : Given Cell → LentCall
  marked : GivenMarked → LentCall
  practice : Given ℕ → LentCall

-- the node list between two calls: its doubles, how many nodes are used, and the rim marks
pub record Pool : Type 0 where
  pub doubles : List Float
  pub count : ℕ
  pub rims : List ℕ

-- "An empty node list has count zero, whatever is in its places"
abbrev pub empty : List Float → List ℕ → Pool
empty l rs = record { doubles = l; count = 0; rims = rs }

abbrev pub lend : {A : Type 0} → Pool → Given A → LentOf A
lend s g = lent g.ring g.chain g.size s.doubles s.count s.rims g.cells g.cell_count_of

abbrev pub lend_marked : Pool → GivenMarked → LentMarked
lend_marked s g =
    lent_marked g.ring g.marking g.size s.doubles s.count s.rims g.cells g.cell_count_of

-- what each entry answers, what it leaves of the node list, and one call after the other, accepted or refused
abbrev pub answer_of : Pool → LentCall → CallAnswer
answer_of s (numbers g) = divide_lent g.limits (lend s g)
answer_of s (records g) = divide_records g.limits (lend s g)
answer_of s (marked g) = divide_marked g.limits (lend_marked s g)
answer_of s (practice g) = divide_practice (lend s g)

abbrev pub leaves : Pool → CallAnswer → Pool
leaves s a = record { doubles = over s.doubles a.nodes; count = a.row.nodes; rims = a.rims }

abbrev pub run : Pool → List LentCall → Pool
run s [] = s
run s (g ∷ gs) = run (leaves s (answer_of s g)) gs

-- the ring that the core gets of a call, and what a ring may add, accepted or not: 2n + c + 2s + 1
abbrev pub start_in : LentCall → Part
start_in (numbers g) = start_of (call_of (lend (empty [] []) g))
start_in (records g) = start_of (call_of_records (lend (empty [] []) g))
start_in (marked g) = marked_start (lend_marked (empty [] []) g)
start_in (practice g) = start_of (call_of (lend (empty [] []) g))

abbrev pub limits_of : LentCall → Limits
limits_of (numbers g) = g.limits
limits_of (records g) = g.limits
limits_of (marked g) = g.limits
limits_of (practice g) = practice_set

abbrev pub allowance : Limits → Part → ℕ
allowance L p = 2 * length p.points + mark_count p.edges + 2 * (split_bad_vertices L p).cuts + 1

-- ---- 02, Card 12: what a call asks for. Its pieces were laid out, all of them (0) or up to one that failed (8), or nothing is asked for
abbrev pub laid_out : ℕ → Bool
laid_out code = eqb code 0 || eqb code 8

unfoldable pub asks_of : Pool → LentCall → List Ask
asks_of s g = cond (laid_out (answer_of s g).row.code) (asked (limits_of g) (start_in g) (nodes_in s.doubles s.count)) []

-- all that the calls gs ask for, one after the other
abbrev pub asks_over : Pool → List LentCall → List Ask
asks_over s [] = []
asks_over s (g ∷ gs) = asks_of s g ++ asks_over (leaves s (answer_of s g)) gs

-- the calls gs from the doubles l, no node of which is used, and the marks rs, whatever they are
pub record LentCalls (l : List Float) (rs : List ℕ) (gs : List LentCall) : Type 0 where
  -- a node that was listed after the first i calls still has its number and every bit at the end
  pub stay : (i k : ℕ) → k < (run (empty l rs) (take i gs)).count
      → (k < (run (empty l rs) gs).count) × (node_in_of (run (empty l rs) gs).doubles k ≡ node_in_of (run (empty l rs) (take i gs)).doubles k)
  -- no two listed nodes share a key
  pub apart : (j k : ℕ) → j < (run (empty l rs) gs).count → k < (run (empty l rs) gs).count
      → node_in_of (run (empty l rs) gs).doubles j ≈ node_in_of (run (empty l rs) gs).doubles k
      → j ≡ k
  -- so a point with a listed node's key gets that node's number
  pub numbered : (k : ℕ) (p : Point) → k < (run (empty l rs) gs).count → p ≈ node_in_of (run (empty l rs) gs).doubles k
      → number (nodes_in (run (empty l rs) gs).doubles (run (empty l rs) gs).count) p ≡ k
  -- every listed node is finite and within 1,024 mm
  pub ranged : (k : ℕ) → k < (run (empty l rs) gs).count → InRange (node_in_of (run (empty l rs) gs).doubles k)
  -- the list keeps its length, and the used nodes are in it
  pub same_length : length (run (empty l rs) gs).doubles ≡ length l
  pub fits : (run (empty l rs) gs).count * 2 ≤ length l
  -- each call adds at most 2n + c + 2s + 1 nodes
  pub adds : (i : ℕ) (g : LentCall) → i < length gs
      → (run (empty l rs) (take (suc i) gs)).count ≤ (run (empty l rs) (take i gs)).count + allowance (limits_of (get_or gs i g)) (start_in (get_or gs i g))
  -- 02, Card 12: "it is set (1) exactly if the node was ever a corner or the middle of a ring edge, clear (0) if only a centre or the middle of a cut": by
  -- what the calls asked for
  pub told : (k : ℕ) → k < (run (empty l rs) gs).count → RimMark (asks_over (empty l rs) gs) k (get_or (run (empty l rs) gs).rims k 0)
  pub asked_for : (k : ℕ) → k < (run (empty l rs) gs).count → AskedFor (asks_over (empty l rs) gs) k
  -- "a set mark stays set": one that was set after the first i calls
  pub set_stays : (i k : ℕ) → k < (run (empty l rs) (take i gs)).count → get_or (run (empty l rs) (take i gs)).rims k 0 ≡ 1
      → get_or (run (empty l rs) gs).rims k 0 ≡ 1
  -- "A refusal before 8 changes no mark": nor does one with a higher number
  pub refused_keeps : (i : ℕ) (g : LentCall) → i < length gs → laid_out (answer_of (run (empty l rs) (take i gs)) (get_or gs i g)).row.code ≡ false
      → (run (empty l rs) (take (suc i) gs)).rims ≡ (run (empty l rs) (take i gs)).rims
  -- the list of marks keeps its length, and the marks past the used count are as found
  pub rims_length : length (run (empty l rs) gs).rims ≡ length rs
  pub past : (k : ℕ) → (run (empty l rs) gs).count ≤ k → get_or (run (empty l rs) gs).rims k 0 ≡ get_or rs k 0
