-- `piece_marks`. The loop's invariant: the places filled are the marks of the piece's first edges; number 60 is straight.
use Rattle.std.proofs.Common.{◌≡◌, ℕ, ◌+◌, ◌≤◌, length, get_or, take}
use Rattle.laws.specs.Table.{tab}
use Rattle.marks.specs.declared.EdgeMark.TheVariants.{Straight}
use Rattle.parts.specs.Layout.{end}
use Rattle.parts.specs.Vertices.{edge_at}
use Rattle.parts.proofs.piece_marks.Given as goal

abbrev pub invariant-loop-j : goal.invariant-loop-j
invariant-loop-j l =
    (length l.out ≡ 60) × (take l.j l.out ≡ tab (λ k. edge_at l.marks l.pieces.corners (end l.pieces l.i + k)) l.j)
    × ((k : ℕ) → l.j ≤ k → get_or l.out k Straight ≡ Straight)
