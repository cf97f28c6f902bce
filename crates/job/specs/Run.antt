-- 01, Job blocks, program: "`divide` reads standard input": the whole run, from the bytes that go in to those that come out. Definitions only.
use Rattle.std.specs.Prelude.{ℕ, zero, suc, ◌+◌, ◌*◌, ◌/◌, ◌<◌, false, cond, List, [], ◌∷◌, ◌++◌, length, get_or, take, drop, replicate, ℤ, pos, Float}
use Rattle.laws.specs.Double.{naught}
use Rattle.state.specs.declared.State.{State}
use Rattle.job.specs.Step.{step_of, text_of}

-- a list of bytes
abbrev pub Bytes : List ℕ → Type 0
Bytes l = (i : ℕ) → get_or l i 0 < 256

-- before the first block: no ring waits, and "one node list of 1,536 places", none of it used, with a rim mark to a place beside it
abbrev pub start : State
start = record { block = 0; count = 0; size = 0; used = 0; ended = false }

abbrev pub no_points : List ℤ
no_points = replicate 120 (pos 0)

abbrev pub no_nodes : List Float
no_nodes = replicate 3072 naught

abbrev pub no_rims : List ℕ
no_rims = replicate 1536 0

-- a run up to here: the state, the points of the ring that waits, the nodes, their rim marks, and all that was printed
pub record RunSoFar : Type 0 where
  pub state : State
  pub points : List ℤ
  pub nodes : List Float
  pub rims : List ℕ
  pub text : List ℕ

-- one block on; a run that has ended stays as it is
unfoldable pub onward : RunSoFar → List ℕ → RunSoFar
onward r b =
    let e = step_of r.state r.points r.nodes r.rims b in
    cond r.state.ended r (record { state = e.state; points = e.points; nodes = e.nodes; rims = e.rims; text = r.text ++ text_of e })

-- the run over some blocks, the latest first
unfoldable pub ran : List (List ℕ) → RunSoFar
ran [] = record { state = start; points = no_points; nodes = no_nodes; rims = no_rims; text = [] }
ran (b ∷ bs) = onward (ran bs) b

-- what read number i gives of an input, from 0: the next 512 bytes, or what is left of it; and the first n reads, the latest first
abbrev pub block_at : List ℕ → ℕ → List ℕ
block_at l i = take 512 (drop (512 * i) l)

unfoldable pub read_to : List ℕ → ℕ → List (List ℕ)
read_to l zero = []
read_to l (suc i) = block_at l i ∷ read_to l i

-- "blocks one at a time, each in full before the next is read", up to the first read that gives less than a block; and what is printed
unfoldable pub whole_run : List ℕ → RunSoFar
whole_run l = ran (read_to l (length l / 512 + 1))

unfoldable pub printed : List ℕ → List ℕ
printed l = (whole_run l).text
