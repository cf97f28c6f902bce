-- A job under way, before its first block and one block on. Definitions only.
use Rattle.std.specs.Prelude.{ℕ, ◌≤◌, ◌≡◌, false, List, length, Option}
use Rattle.stream.specs.Reads.{Reads}
use Rattle.told.specs.declared.Told.{Told}
use Rattle.job.specs.Step.{step_of, Steps, no_cells}
use Rattle.job.specs.Run.{Bytes, start, no_points, no_nodes, no_rims}
use Rattle.run.specs.declared.Job.{Job}

-- no block was read
pub record Begins (j : Job) : Type 0 where
  pub state : j.state ≡ start
  pub points : j.ring ≡ no_points
  pub nodes : j.nodes ≡ no_nodes
  pub rims : j.rims ≡ no_rims
  pub cells : j.cells ≡ no_cells

-- the step over one more block of a run that has not ended leaves k of j, and tells t
pub record Onward (j k : Job) (t : Told) : Type 0 where
  pub block : List ℕ
  pub bytes : Bytes block
  pub few : length block ≤ 512
  pub going : j.state.ended ≡ false
  pub steps : Steps (step_of j.state j.ring j.nodes j.rims block) (record { state = k.state; told = t }) k.ring k.nodes k.rims k.cells

-- and that block is what the reader gave
pub record Reading (old new : Option (List ℕ)) (j k : Job) (t : Told) : Type 0 where
  pub onward : Onward j k t
  pub read : Reads old new onward.block
