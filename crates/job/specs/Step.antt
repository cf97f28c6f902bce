-- 01, Job blocks, program, and What is returned: one step of a run, from the bytes of a block to what is told of it and what is kept. Definitions only.
use Rattle.std.specs.Prelude.{ℕ, ◌+◌, ◌*◌, ◌/◌, ◌%◌, ◌≤◌, ◌≡◌, true, false, ◌&&◌, cond, List, length, take, replicate, eqb, ℤ, Float, Result, Ok, Err}
use Rattle.limits.specs.Limits.{delivered}
use Rattle.nodes.specs.Flat.{over}
use Rattle.quads.specs.Flat.{over_cells}
use Rattle.call.specs.Lent.{Lent, divide_lent, lent}
use Rattle.blocks.specs.declared.Block.{Block}
use Rattle.blocks.specs.declared.Block.TheVariants.{Ring, Chain}
use Rattle.blocks.specs.declared.Reading.{Reading}
use Rattle.blocks.specs.declared.Refused.{Refused}
use Rattle.blocks.specs.Blocks.{read_block}
use Rattle.told.specs.Text.{Tells, tells_of, told_text, CanTell}
use Rattle.state.specs.declared.State.{State}
use Rattle.job.specs.declared.Stepped.{Stepped}

-- what a step leaves: the state, the points of the ring that waits for its chain, in all 60 places, the nodes and their rim marks, and the cells; and what it
-- tells of its block
pub record Step : Type 0 where
  pub state : State
  pub points : List ℤ
  pub nodes : List Float
  pub rims : List ℕ
  pub cells : List ℕ
  pub told : Tells

-- the text that is printed of it
abbrev pub text_of : Step → List ℕ
text_of e = told_text e.told e.cells

-- "its cell list has 124 and starts empty for each ring": the places, four numbers each
abbrev pub no_cells : List ℕ
no_cells = replicate 496 0

-- the run ends, and this is the last that it tells; "both lists keep what earlier rings left"
abbrev pub closed : State → State
closed s = record { block = s.block; count = s.count; size = s.size; used = s.used; ended = true }

unfoldable pub ends : State → List ℤ → List Float → List ℕ → Tells → Step
ends s ps l rs t = record { state = closed s; points = ps; nodes = l; rims = rs; cells = no_cells; told = t }

-- a ring block: its ring waits for its chain, and nothing is told yet
unfoldable pub waits : State → List Float → List ℕ → ℕ → ℕ → List ℤ → Step
waits s l rs count size qs =
    record {
      state = record { block = s.block + 1; count = count; size = size; used = s.used; ended = false };
      points = qs;
      nodes = l;
      rims = rs;
      cells = no_cells;
      told = Tells.Nothing;
    }

-- the call of the ring that waits, with its chain, over the run's node list and the rim marks beside it
abbrev pub lent_by : State → List ℤ → List Float → List ℕ → List ℤ → Lent
lent_by s ps l rs chain = lent (take (s.count * 2) ps) chain s.size l s.used rs no_cells 0

-- a chain block: the ring that waits is divided, and its row told. "ring number from 0, refused rings counted": two blocks a ring
unfoldable pub divides : State → List ℤ → List Float → List ℕ → List ℤ → Step
divides s ps l rs chain =
    let a = divide_lent delivered (lent_by s ps l rs chain) in
    record {
      state = record { block = s.block + 1; count = s.count; size = s.size; used = a.row.nodes; ended = false };
      points = ps;
      nodes = over l a.nodes;
      rims = a.rims;
      cells = over_cells no_cells a.cells;
      told = Tells.Ring (s.block / 2) s.used a.row;
    }

-- a block with the points qs, as it was read
unfoldable pub taken : State → List ℤ → List Float → List ℕ → List ℤ → Block → Step
taken s ps l rs qs (Ring count size) = waits s l rs count size qs
taken s ps l rs qs (Chain count) = divides s ps l rs (take (count * 2) qs)

-- a block that was read, or was refused: "A block refusal ends the run with `block NUMBER refused CODE`"
unfoldable pub answered : State → List ℤ → List Float → List ℕ → Result Reading Refused → Step
answered s ps l rs (Ok r) = taken s ps l rs r.points r.block
answered s ps l rs (Err e) = ends s ps l rs (Tells.Block e)

-- the step over the bytes b of the next block: 512 of them, or what is left of the input, or none where it has ended. "part of a block, or the input ends
-- after a ring block" is 9, with the number "of the missing chain block"; where the input ends after a chain block, or is empty, nothing is printed
unfoldable pub step_of : State → List ℤ → List Float → List ℕ → List ℕ → Step
step_of s ps l rs b =
    cond (eqb (s.block % 2) 0 && eqb (length b) 0) (ends s ps l rs Tells.Nothing) (answered s ps l rs (read_block b s.block))

-- the code's step answered r, and left the points q, the nodes m, the rim marks w and the cells p; and what it tells can be printed
pub record Steps (e : Step) (r : Stepped) (q : List ℤ) (m : List Float) (w p : List ℕ) : Type 0 where
  pub state : r.state ≡ e.state
  pub points : q ≡ e.points
  pub nodes : m ≡ e.nodes
  pub rims : w ≡ e.rims
  pub cells : p ≡ e.cells
  pub told : tells_of r.told ≡ e.told
  pub tells : CanTell (tells_of r.told) p

-- a step can be made: the ring that waits has at most 60 points, in their places
pub record CanStep (s : State) (ps : List ℤ) : Type 0 where
  pub few : s.count ≤ 60
  pub long : length ps ≡ 120
