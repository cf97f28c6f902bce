-- The loop of a run: what holds between two blocks, and when it has ended. Of what the operating system reads and writes no contract can speak, so the input
-- stands for the bytes that the loop stepped over, one block after the other, and what was written for its length.
use Rattle.std.specs.Prelude.{ℕ, ◌+◌, ◌*◌, ◌≤◌, ◌≡◌, true, false, List, length, ℤ, Float}
use Rattle.report.specs.Report.{most_text}
use Rattle.state.specs.declared.State.{State}
use Rattle.job.specs.Step.{step_of, text_of}
use Rattle.job.specs.Run.{Bytes, ran, read_to, printed}

-- the state, the ring that waits, the nodes and their rim marks were reached by the first blocks of an input
pub record Reached (s : State) (ps : List ℤ) (l : List Float) (rs : List ℕ) : Type 0 where
  pub input : List ℕ
  pub blocks : ℕ
  pub state : s ≡ (ran (read_to input blocks)).state
  pub points : ps ≡ (ran (read_to input blocks)).points
  pub nodes : l ≡ (ran (read_to input blocks)).nodes
  pub rims : rs ≡ (ran (read_to input blocks)).rims
  -- these are bytes; and while the run goes on, all of the blocks were whole
  pub bytes : Bytes input
  pub whole : s.ended ≡ false → length input ≡ 512 * blocks

-- and as many bytes were written as those blocks have text
pub record Wrote (s : State) (ps : List ℤ) (l : List Float) (rs : List ℕ) (sent : ℕ) : Type 0 where
  pub reached : Reached s ps l rs
  pub text : sent ≡ length (ran (read_to reached.input reached.blocks)).text
  -- no text is longer than 6,400 bytes
  pub bound : sent ≤ most_text * reached.blocks

-- t is the text that the run owes after `sent` bytes: that of one more block, in a run that has not ended
pub record Owed (sent : ℕ) (t : List ℕ) : Type 0 where
  pub state : State
  pub points : List ℤ
  pub nodes : List Float
  pub rims : List ℕ
  pub block : List ℕ
  pub wrote : Wrote state points nodes rims sent
  pub going : state.ended ≡ false
  -- there are at most 65,536 blocks
  pub few : sent ≤ most_text * 65536
  pub text : t ≡ text_of (step_of state points nodes rims block)

-- the text t, of at most 6,400 bytes, was written after `sent` bytes, which makes n
pub record Sends (sent : ℕ) (t : List ℕ) (n : ℕ) : Type 0 where
  pub count : n ≡ sent + length t
  pub short : length t ≤ most_text

-- the run of an input has ended, and all that is printed of it was written
pub record Finished (sent : ℕ) : Type 0 where
  pub input : List ℕ
  pub bytes : Bytes input
  pub all : sent ≡ length (printed input)

-- the run of an input has ended, and left so many nodes in the list l
pub record EndedWith (used : ℕ) (l : List Float) : Type 0 where
  pub input : List ℕ
  pub blocks : ℕ
  pub bytes : Bytes input
  pub ended : (ran (read_to input blocks)).state.ended ≡ true
  pub count : used ≡ (ran (read_to input blocks)).state.used
  pub nodes : l ≡ (ran (read_to input blocks)).nodes
