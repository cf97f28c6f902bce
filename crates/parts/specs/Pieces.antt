-- The pieces that a split leaves, one by one. Definitions only.
use Rattle.std.specs.Prelude.{ℕ, List, get_or}
use Rattle.vector.specs.declared.GridPoint.{GridPoint}
use Rattle.marks.specs.declared.EdgeMark.{EdgeMark}
use Rattle.marks.specs.Part.{Part, no_part}
use Rattle.parts.specs.declared.list.PartList.{PartList}
use Rattle.parts.specs.Layout.{list_of}

-- piece i
abbrev pub piece_in : List GridPoint → List EdgeMark → PartList → ℕ → Part
piece_in ring es p i = get_or (list_of ring es p p.count) i no_part
