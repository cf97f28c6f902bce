-- `write_body`, the loop's invariant: the first w words stand in their places, and the rest is as found.
use Prim.Native.Nat.{◌*◌}
use mathlib.Core.Path.{◌≡◌}
use mathlib.Core.List.{◌++◌}
use lib.ListN.{length, drop}
use Rattle.blocks.specs.Writing.{field, words_to}
use Rattle.block_writer.proofs.write_body.Given as goal

abbrev pub invariant-loop-w : goal.invariant-loop-w
invariant-loop-w l =
    (length l.out ≡ length l.initial.out) × (l.out ≡ words_to (field l.points l.size l.number) l.w ++ drop (l.w * 4) l.initial.out)
