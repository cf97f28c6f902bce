-- Parts one after the other, as the code holds them: part j has the corners from end j to end j + 1. Read back as the stack of parts and as the list of pieces.
use Rattle.std.specs.Prelude.{ℕ, zero, suc, ◌+◌, ◌-◌, ◌≤◌, ◌<◌, ◌≡◌, List, [], ◌∷◌, ◌++◌, get_or}
use Rattle.laws.specs.Table.{tab}
use Rattle.vector.specs.declared.GridPoint.{GridPoint}
use Rattle.marks.specs.declared.EdgeMark.{EdgeMark}
use Rattle.marks.specs.Part.{Part}
use Rattle.parts.specs.declared.list.Vertex.{Vertex}
use Rattle.parts.specs.declared.list.PartList.{PartList}
use Rattle.parts.specs.Vertices.{blank, vertex, corner_point, edge_at, part_of}

abbrev pub end : PartList → ℕ → ℕ
end p j = get_or p.ends j 0

-- the part of n corners from place a on
abbrev pub part_at : List GridPoint → List EdgeMark → List Vertex → ℕ → ℕ → Part
part_at ring es vs a n = record { points = tab (λ i. corner_point ring vs (a + i)) n; edges = tab (λ i. edge_at es vs (a + i)) n }

-- part j, and how many corners it has
abbrev pub size : PartList → ℕ → ℕ
size p j = end p (suc j) - end p j

abbrev pub nth : List GridPoint → List EdgeMark → PartList → ℕ → Part
nth ring es p j = part_at ring es p.corners (end p j) (size p j)

-- the corners of part j
abbrev pub corners_of : PartList → ℕ → List Vertex
corners_of p j = tab (λ i. vertex p.corners (end p j + i)) (size p j)

-- the first t parts, as a stack: the last one first; and as a list
unfoldable pub stack_of : List GridPoint → List EdgeMark → PartList → ℕ → List Part
stack_of ring es p zero = []
stack_of ring es p (suc t) = nth ring es p t ∷ stack_of ring es p t

abbrev pub list_of : List GridPoint → List EdgeMark → PartList → ℕ → List Part
list_of ring es p t = tab (nth ring es p) t

-- the parts stand from place 0 on, and every place after them holds what an empty list holds
pub record Packed (p : PartList) : Type 0 where
  pub start : end p 0 ≡ 0
  pub corners : (i : ℕ) → end p p.count ≤ i → i < 124 → vertex p.corners i ≡ blank
  pub ends : (j : ℕ) → p.count < j → end p j ≡ 0

-- n corners ps were put at place a, and all others stayed
pub record Stored (vs : List Vertex) (a : ℕ) (ps : List Vertex) (n : ℕ) (r : List Vertex) : Type 0 where
  pub low : (i : ℕ) → i < a → vertex r i ≡ vertex vs i
  pub high : (i : ℕ) → i < n → vertex r (a + i) ≡ vertex ps i
  pub rest : (i : ℕ) → a + n ≤ i → vertex r i ≡ vertex vs i

-- r is p with one part more, the first n corners of ps
pub record Pushed (p : PartList) (ps : List Vertex) (n : ℕ) (r : PartList) : Type 0 where
  pub count : r.count ≡ p.count + 1
  pub last : end r r.count ≡ end p p.count + n
  pub stack : (ring : List GridPoint) (es : List EdgeMark) → stack_of ring es r r.count ≡ part_of ring es ps n ∷ stack_of ring es p p.count
  pub list : (ring : List GridPoint) (es : List EdgeMark) → list_of ring es r r.count ≡ list_of ring es p p.count ++ (part_of ring es ps n ∷ [])
  pub packed : Packed p → Packed r
