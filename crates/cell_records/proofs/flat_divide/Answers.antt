-- `flat_divide`: the laws hold of every list of cells with that many places; where none is named, one of empty cells stands for it.
use native.Mathlib.Omega.{arith}
use mathlib.Core.Path.{refl}
use mathlib.Core.List.{List}
use lib.ListN.{replicate, length-replicate}
use Rattle.limits.specs.Limits.{delivered}
use Rattle.quads.specs.declared.Cell.{Cell}
use Rattle.quads.specs.Quads.{no_cell}
use Rattle.table.specs.Answers.{values}
use Rattle.call.specs.Lent.{LentRecords, lent}
use Rattle.divider.proofs.Calling.{most-cuts}
use Rattle.cell_records.proofs.Numbered.{counts_in, sum_fits, laid-numbers, laid-fits}
use Rattle.cell_records.proofs.flat_divide.Goals as goal
use Rattle.cell_records.proofs.flat_divide.Goals.{Start}

-- what was lent, with these cells
abbrev by_args : (s : Start) → List Cell → LentRecords
by_args s cs =
    let a = s.args in
    lent a.ring.now a.chain.now a.size a.nodes.now a.node_count a.rims.now cs a.cell_count

pub placed-requires : goal.placed-requires
placed-requires c =
    let a = c.args in
    let L = c.on_delivery-limits in
    let d = c.divide_with-a in
    let cs = replicate a.cell_places no_cell in
    let n = length-replicate a.cell_places no_cell in
    let f = most-cuts L.result L.ensures in (
      sum_fits L.result f (replicate 496 0) refl (by_args (goal.at.placed-requires c).Start cs)
          (values d.result) _ _ _ (d.ensures cs n) (omega (arith, n, c.ranges.cell_places))
          c.ranges.cell_count.fits,
      counts_in L.result f (replicate 496 0) refl (by_args (goal.at.placed-requires c).Start cs) (values d.result) _ _ _ (d.ensures cs n),
    )

pub returns : goal.returns
returns c =
    let a = c.args in
    let L = c.on_delivery-limits in
    let d = c.divide_with-a in
    let cs = replicate a.cell_places no_cell in
    let n = length-replicate a.cell_places no_cell in
    let f = most-cuts L.result L.ensures in
    let g = laid-fits L.result f (replicate 496 0) refl (by_args (goal.at.returns c).Start cs) (values d.result) _ _ _ (d.ensures cs n) c.placed.result
    c.placed.ensures in (
      (λ cells e.
          laid-numbers L.result f (replicate 496 0) refl (by_args (goal.at.returns c).Start cells) (values d.result) _ _ _ (d.ensures cells e) c.placed.result
          c.placed.ensures delivered L.ensures),
      g.0,
      (λ h. omega (arith, g.1 h, n)),
    )
