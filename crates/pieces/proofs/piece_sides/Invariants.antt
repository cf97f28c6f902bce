-- `piece_sides`, the loop's invariant: the places filled are the sides of the piece, and the rest are false.
use Prim.Native.Nat.{ℕ, ◌≤◌}
use mathlib.Core.Path.{◌≡◌}
use mathlib.Core.Bool.{false}
use lib.ListN.{take, length, get_or}
use Rattle.laws.specs.Table.{tab}
use Rattle.parts.specs.Layout.{end}
use Rattle.pieces.proofs.Sides.{side_of}
use Rattle.pieces.proofs.piece_sides.Given as goal

abbrev pub invariant-loop-j : goal.invariant-loop-j
invariant-loop-j l =
    (length l.out ≡ 60) × (take l.j l.out ≡ tab (side_of l.pieces (end l.pieces l.i)) l.j) × ((k : ℕ) → l.j ≤ k → get_or l.out k false ≡ false)
