-- What is drawn of one block of a job. Definitions only.
use Rattle.std.specs.Prelude.{ℕ, ◌*◌, cond, List, [], take, eqb, ℤ, Float, Result, Ok, Err}
use Rattle.blocks.specs.declared.Block.{Block}
use Rattle.blocks.specs.declared.Block.TheVariants.{Ring, Chain}
use Rattle.blocks.specs.declared.Reading.{Reading}
use Rattle.blocks.specs.declared.Refused.{Refused}
use Rattle.blocks.specs.Blocks.{number_of, read_block}
use Rattle.table.specs.declared.Row.{Row}
use Rattle.told.specs.Text.{Tells}
use Rattle.job.specs.Run.{block_at}
use Rattle.scene.specs.declared.points.Points.{Points}
use Rattle.scene.specs.declared.Lists.{Lists}
use Rattle.scene.specs.Scene.{ring_text, lead_text}
use Rattle.frame.specs.declared.Edges.{Edges}
use Rattle.frame.specs.Head.{ended_text}

-- no block's drawing is longer
abbrev pub most_step : ℕ
most_step = 84000

-- the cells of a row in a ring's list: none of a refused one
abbrev pub cells_of : Row → List ℕ → List ℕ
cells_of v cs = take (cond (eqb v.code 0) (v.cells * 4) 0) cs

-- what is drawn of what a step tells: nothing of a ring that waits, the ring itself, or the line of a refused block
unfoldable pub drawn : Edges → Tells → ℕ → List ℤ → List Float → List ℕ → List ℕ → List ℕ
drawn f Tells.Nothing count ps l rs cs = []
drawn f (Tells.Ring n used v) count ps l rs cs = ring_text n v ps count l rs (cells_of v cs)
drawn f (Tells.Block r) count ps l rs cs = ended_text f r.block (number_of r.why)

-- the same of points and lists as they are handed over, and a ring with the cells of its row
abbrev pub told_drawn : Edges → Tells → Points → Lists → List ℕ
told_drawn f t p a = drawn f t p.count p.list.now a.nodes.now a.rims.now a.cells.now

abbrev pub row_drawn : ℕ → Row → Points → Lists → List ℕ
row_drawn n v p a = ring_text n v p.list.now p.count a.nodes.now a.rims.now (cells_of v a.cells.now)

-- the lead line of a block with the points ps, where it is a chain; of what was read of a block, and of block i of a job
unfoldable pub lead_of : List ℤ → Block → List ℕ
lead_of ps (Ring count size) = []
lead_of ps (Chain count) = lead_text ps count

unfoldable pub lead_in : Result Reading Refused → List ℕ
lead_in (Ok r) = lead_of r.points r.block
lead_in (Err e) = []

unfoldable pub lead_at : List ℕ → ℕ → List ℕ
lead_at l i = lead_in (read_block (block_at l i) i)
