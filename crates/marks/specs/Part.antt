-- 01, Words of demand 3: "A part is that ring, or one of the two that make_sub_polygon gives": its corners, and beside
-- each the mark of the edge that starts there.
use Rattle.std.specs.Prelude.{ℕ, suc, List, [], ◌∷◌}
use Rattle.vector.specs.declared.GridPoint.{GridPoint}
use Rattle.marks.specs.declared.EdgeMark.{EdgeMark}
use Rattle.marks.specs.declared.EdgeMark.TheVariants.{Straight, Snap}

pub record Part : Type 0 where
  pub points : List GridPoint
  pub edges : List EdgeMark

abbrev pub no_part : Part
no_part = record { points = []; edges = [] }

-- how many edges are marked
abbrev pub mark_count : List EdgeMark → ℕ
mark_count [] = 0
mark_count (Straight ∷ es) = mark_count es
mark_count (Snap p ∷ es) = suc (mark_count es)
