-- `ring_of`: points that are not beyond the limits are on the sheet.
use mathlib.Core.Path.{sym, ◌∙◌, subst}
use mathlib.Core.List.{List}
use lib.ListN.{get_or}
use Rattle.laws.proofs.Table.{tab_none}
use Rattle.vector.specs.declared.GridPoint.{GridPoint}
use Rattle.vector.specs.Grid.{origin}
use Rattle.vector.specs.Size.{OnSheet}
use Rattle.vector.proofs.Sheet.{origin_on}
use Rattle.call.proofs.Tests.{points_on_sheet}
use native.Mathlib.Omega.{arith}
use Rattle.stages.proofs.ring_of.Goals as goal

pub points-requires : goal.points-requires
points-requires c = (omega arith, omega arith, λ i. subst (λ (l : List GridPoint). OnSheet (get_or l i origin)) (tab_none _) origin_on)

pub points-requires-2 : goal.points-requires-2
points-requires-2 c = (omega arith, omega arith, λ i. points_on_sheet _ (sym c.any_outside.ensures ∙ c.if-any_outside.false) i)
