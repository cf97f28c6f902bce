-- Cells and edges as the code has them: a lent list that holds a cell as four numbers, and what the functions answer.
-- Definitions only.
use Rattle.std.specs.Prelude.{ℕ, ◌<◌, Bool, ◌&&◌, List, [], ◌∷◌, get_or, Float}
use Rattle.std.specs.List.{flat_map}
use Rattle.laws.specs.Lists.{written_over}
use Rattle.vector.specs.declared.Point.{Point}
use Rattle.marks.specs.declared.EdgeMark.{EdgeMark}
use Rattle.quads.specs.declared.Cell.{Cell}
use Rattle.quads.specs.declared.Middle.{Middle}
use Rattle.quads.specs.Quads.{too_far, edge_middle, turns_left}

-- the first n of ks are numbers of listed nodes
abbrev pub ListedTo : ℕ → List ℕ → ℕ → Type 0
ListedTo u ks n = (j : ℕ) → j < n → get_or ks j 0 < u

-- the four numbers of a cell are those of listed nodes
pub record Listed (count : ℕ) (q : Cell) : Type 0 where
  pub a : q.a < count
  pub b : q.b < count
  pub c : q.c < count
  pub d : q.d < count

-- where the middle of an edge goes, and whether its snap point was too far
abbrev pub middle_of : Float → EdgeMark → Point → Point → Middle
middle_of share m a b = record { at = edge_middle share m a b; far = too_far share m a b }

-- quad_positive, of the four corners
abbrev pub positive : Point → Point → Point → Point → Bool
positive p q r s = turns_left p q r && turns_left q r s && turns_left r s p && turns_left s p q

-- a cell's four numbers, and those of cells in order
abbrev pub four : Cell → List ℕ
four c = c.a ∷ c.b ∷ c.c ∷ c.d ∷ []

abbrev pub flat_cells : List Cell → List ℕ
flat_cells cs = flat_map four cs

-- l with the cells cs over its first places, all else as found
unfoldable pub over_cells : List ℕ → List Cell → List ℕ
over_cells l cs = written_over four 4 l cs
