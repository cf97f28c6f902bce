-- Card 9, "Cutters pin a paper list beside the table", of the nodes that a job lists: the program's sheet, from the bytes that go in to those that come out;
-- what it owes, and when it has ended. Of what the operating system reads and writes no contract can speak, so the input stands for the bytes that were stepped
-- over, and what was written for its length. Definitions only.
use Rattle.std.specs.Prelude.{ℕ, ◌+◌, ◌<◌, ◌≤◌, ◌≡◌, List, length, Float}
use Rattle.nodes.specs.Nodes.{most_places}
use Rattle.listing.specs.Sheet.{line, lines}
use Rattle.job.specs.Run.{Bytes, whole_run}
use Rattle.telling.specs.Reached.{EndedWith}

-- the lines of the nodes that the run of an input leaves, in the order of their numbers
unfoldable pub sheeted : List ℕ → List ℕ
sheeted l = lines (whole_run l).nodes (whole_run l).state.used

-- t is the line that is owed after `sent` bytes: that of the node after those whose lines were written, of a run that has ended
pub record Owed (sent : ℕ) (t : List ℕ) : Type 0 where
  pub nodes : List Float
  pub used : ℕ
  pub number : ℕ
  pub ended : EndedWith used nodes
  pub below : number < used
  pub few : used ≤ most_places
  pub wrote : sent ≡ length (lines nodes number)
  pub text : t ≡ line nodes number
  -- at most a million lines of 65 bytes
  pub fits : sent + length t ≤ 65000065

-- the run of an input has ended, and the whole of its sheet was written
pub record Finished (sent : ℕ) : Type 0 where
  pub input : List ℕ
  pub bytes : Bytes input
  pub all : sent ≡ length (sheeted input)
