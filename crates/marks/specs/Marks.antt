-- 01, Marks: "Edge i is marked if its two ends are, in either sense, two neighbours j, j + 1 of the simplified chain; the first j wins."
use Rattle.std.specs.Prelude.{ℕ, zero, suc, Bool, ◌||◌, ◌&&◌, cond, List, [], ◌∷◌, ◌++◌, length, get_or, ltb}
use Rattle.laws.specs.Bounded.{first}
use Rattle.vector.specs.declared.GridPoint.{GridPoint}
use Rattle.vector.specs.Grid.{same, at}
use Rattle.chain.specs.Chain.{Stretch, no_stretch}
use Rattle.marks.specs.declared.EdgeMark.{EdgeMark}
use Rattle.marks.specs.declared.EdgeMark.TheVariants.{Straight, Snap}
use Rattle.marks.specs.Part.{Part}

-- the stretch s joins a and b, in either sense
unfoldable pub joins : GridPoint → GridPoint → Stretch → Bool
joins a b s = same s.from a && same s.to b || same s.from b && same s.to a

-- the mark of the edge from a to b
unfoldable pub mark : List Stretch → GridPoint → GridPoint → EdgeMark
mark c a b =
    let j = first (λ i. joins a b (get_or c i no_stretch)) (length c) 0 in
    cond (ltb j (length c)) (Snap (get_or c j no_stretch).snap) Straight

-- the marks of the first n edges of a ring, and the ring with all of them
unfoldable pub marks_to : List Stretch → List GridPoint → ℕ → List EdgeMark
marks_to c r zero = []
marks_to c r (suc i) = marks_to c r i ++ (mark c (at r i) (at r (suc i)) ∷ [])

unfoldable pub marked : List Stretch → List GridPoint → Part
marked c r = record { points = r; edges = marks_to c r (length r) }
