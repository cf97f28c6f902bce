-- `all_on_sheet`, the loop's invariant: all numbers of the blocks passed are on the sheet.
use Rattle.std.proofs.Common.{◌≡◌, false, take, ◌*◌}
use Rattle.std.specs.List.{list_any}
use Rattle.nodes.proofs.Passes.{off_sheet}
use Rattle.nodes.proofs.on_sheet.all_on_sheet.Given as goal

abbrev pub invariant-loop-block : goal.invariant-loop-block
invariant-loop-block l = false ≡ list_any off_sheet (take (l.block-index * 16) l.l)
