-- 01, Rings for trial, and Job blocks, program: what is printed of a row of the table, and of what a step tells. Definitions only.
use Rattle.std.specs.Prelude.{ℕ, ◌-◌, ◌*◌, ◌≤◌, ◌≡◌, cond, List, [], length, take, eqb}
use Rattle.table.specs.declared.Row.{Row}
use Rattle.table.specs.Answers.{values}
use Rattle.blocks.specs.declared.Refused.{Refused}
use Rattle.blocks.specs.Blocks.{number_of}
use Rattle.report.specs.Report.{ring_text, refused_ring, refused_block}
use Rattle.told.specs.declared.Told.{Told}

-- what a step tells: nothing, a ring's number and row with the count of nodes listed before it, or a refused block
pub data Tells : Type 0 where
  Nothing : Tells
  Ring : ℕ → ℕ → Row → Tells
  Block : Refused → Tells

-- and so what the code's step tells, which has a ring's answer
abbrev pub tells_of : Told → Tells
tells_of Told.Nothing = Nothing
tells_of (Told.Ring n used a) = Ring n used (values a)
tells_of (Told.Block r) = Block r

-- the text of ring number n, whose row is v: `used` nodes were listed before it, and its cells are the first of the list
unfoldable pub row_text : ℕ → ℕ → Row → List ℕ → List ℕ
row_text n used v cells =
    cond (eqb v.code 0)
    (ring_text (record { ring = n; corners = v.corners; cuts = v.cuts; turned = v.turned; area = v.area; nodes = v.nodes; added = v.nodes - used })
    (take (v.cells * 4) cells))
    (refused_ring n v.code v.corners v.k)

-- the text of what was told; "A block refusal ends the run with `block NUMBER refused CODE`"
unfoldable pub told_text : Tells → List ℕ → List ℕ
told_text Nothing cells = []
told_text (Ring n used v) cells = row_text n used v cells
told_text (Block r) cells = refused_block r.block (number_of r.why)

-- what an accepted row has to satisfy to be printed: no fewer nodes than before, and the cells within the list
pub record PrintableRow (used : ℕ) (v : Row) (cells : List ℕ) : Type 0 where
  pub grown : v.code ≡ 0 → used ≤ v.nodes
  pub listed : v.code ≡ 0 → v.cells * 4 ≤ length cells

-- and so what was told; "its cell list has 124" cells of four numbers each
abbrev pub Printable : Tells → List ℕ → Type 0
Printable Nothing cells = Unit {0}
Printable (Ring n used v) cells = PrintableRow used v cells
Printable (Block r) cells = Unit {0}

pub record CanTell (t : Tells) (cells : List ℕ) : Type 0 where
  pub printable : Printable t cells
  pub few : length cells ≤ 496
