-- Card 9, the sheet: its lines as bytes, the refusals 3 and 17, what the call returns and what it leaves. Definitions only.
use Rattle.std.specs.Prelude.{ℕ, zero, suc, ◌+◌, ◌-◌, ◌*◌, ◌/◌, Bool, not, ◌||◌, cond, List, [], ◌∷◌, ◌++◌, length, get_or, replicate, ltb, eqb, Float}
use Rattle.std.specs.Float.{nan}
use Rattle.nodes.specs.Nodes.{most_places}
use Rattle.nodes.specs.Flat.{all_on_sheet}
use Rattle.text.specs.Text.{decimal, put}
use Rattle.decimals.specs.Shown.{shown}

-- "right-aligned" in w columns
unfoldable pub right_aligned : ℕ → List ℕ → List ℕ
right_aligned w t = replicate (w - length t) 32 ++ t

-- "number right-aligned in 8, then x and y right-aligned in 28 each, ... and a line feed beyond the 64": of node i
unfoldable pub line : List Float → ℕ → List ℕ
line l i = right_aligned 8 (decimal i) ++ right_aligned 28 (shown (get_or l (i * 2) nan)) ++ right_aligned 28 (shown (get_or l (i * 2 + 1) nan)) ++ (10 ∷ [])

-- "Lines follow node order": of the first i nodes
unfoldable pub lines : List Float → ℕ → List ℕ
lines l zero = []
lines l (suc i) = lines l i ++ line l i

-- 3, of the node list alone: "a used count above its list, a node list over 1,000,000 places, a used node not finite or beyond 1,024 mm either way"
unfoldable pub nodes_out : List Float → ℕ → Bool
nodes_out l count = ltb (length l / 2) count || ltb most_places (length l / 2) || not (all_on_sheet l (count * 2))

-- "17 if the destination is shorter than 65 bytes per used node, after 3"
unfoldable pub answer : List Float → ℕ → List ℕ → ℕ
answer l count out = cond (nodes_out l count) 3 (cond (ltb (length out) (count * 65)) 17 0)

-- every byte of the destination afterwards: the lines in front and the others as found, or all as found
unfoldable pub left : List Float → ℕ → List ℕ → List ℕ
left l count out = cond (eqb (answer l count out) 0) (put out 0 (lines l count)) out
