-- The picture of a job as one definition, `pictured`, from the bytes that go in to those that come out; what is owed of it after so many bytes; and what a
-- writer has got of it, where its bytes are known. Of what the operating system takes no contract can speak, so it stands for its length. Definitions only.
use Rattle.std.specs.Prelude.{ℕ, zero, suc, ◌+◌, ◌*◌, ◌/◌, ◌%◌, ◌≤◌, ◌<◌, ◌≡◌, false, cond, List, [], ◌++◌, length, take, eqb, ℤ, Float}
use Rattle.std.specs.Prelude.{Option, IfSome, Result, Ok, Err, IfOk, IfErr}
use Rattle.std.specs.Io.KnownBytes.{Consumes, Appends}
use Rattle.text.specs.Text.{bytes}
use Rattle.text.specs.declared.Page.{Page}
use Rattle.state.specs.declared.State.{State}
use Rattle.job.specs.Step.{step_of}
use Rattle.job.specs.Run.{RunSoFar, ran, read_to, whole_run, block_at}
use Rattle.scene.specs.Scene.{nodes_text}
use Rattle.frame.specs.declared.Frame.{Frame}
use Rattle.frame.specs.Bounds.{extent_of, frame_of}
use Rattle.frame.specs.Head.{head_text, edges_of, foot_text}
use Rattle.sketch.specs.Drawn.{drawn, lead_at, most_step}
use Rattle.stream.specs.declared.ReadFailed.{ReadFailed}
use Rattle.stream.specs.declared.WriteFailed.{WriteFailed}
use Rattle.picture.specs.declared.End.{End}
use Rattle.picture.specs.declared.End.TheVariants.{Drawn, TooLong}

-- of the run r, one block on, the lead line over its ring; of a run that has ended, nothing
unfoldable pub step_drawn : Frame → RunSoFar → List ℕ → List ℕ → List ℕ
step_drawn f r b lead =
    let e = step_of r.state r.points r.nodes r.rims b in
    cond r.state.ended [] (drawn (edges_of f) e.told e.state.count e.points e.nodes e.rims e.cells ++ lead)

-- the head, and what is drawn of the first i blocks of a job
unfoldable pub drawn_to : Frame → List ℕ → ℕ → List ℕ
drawn_to f l zero = head_text f
drawn_to f l (suc i) = drawn_to f l i ++ step_drawn f (ran (read_to l i)) (block_at l i) (lead_at l i)

-- the head and the rings in their order
unfoldable pub rings_drawn : List ℕ → List ℕ
rings_drawn l = drawn_to (frame_of (extent_of l)) l (length l / 512 + 1)

-- then the first i of the nodes that are listed in the end, and all of them
unfoldable pub nodes_drawn : List ℕ → ℕ → List ℕ
nodes_drawn l i = rings_drawn l ++ nodes_text (whole_run l).nodes (whole_run l).rims i

unfoldable pub all_drawn : List ℕ → List ℕ
all_drawn l = nodes_drawn l (whole_run l).state.used

-- the whole: these, and the foot
unfoldable pub pictured : List ℕ → List ℕ
pictured l = all_drawn l ++ foot_text

-- a job of less than 4 GB has no more bytes of head and rings, and no longer a picture
abbrev pub most_rings : ℕ
most_rings = 1000000000000

abbrev pub most_picture : ℕ
most_picture = 1099511627776

-- the text on a page
abbrev pub on : Page → List ℕ
on p = take p.at p.out.now

-- as many bytes were written as t has
pub record Wrote (t : List ℕ) (sent : ℕ) : Type 0 where
  pub count : sent ≡ length t
  pub bound : sent ≤ most_picture

-- t is what the picture of a job has next, after `sent` bytes
pub record Owed (job : List ℕ) (sent : ℕ) (t : List ℕ) : Type 0 where
  pub before : List ℕ
  pub after : List ℕ
  pub wrote : Wrote before sent
  pub whole : pictured job ≡ before ++ t ++ after

-- the text t, no longer than a block's, was written after `sent` bytes, which makes n
pub record Sends (sent : ℕ) (t : List ℕ) (n : ℕ) : Type 0 where
  pub count : n ≡ sent + length t
  pub short : length t ≤ most_step

-- what the text u has more than t was written
pub record Grows (old new : Option (List ℕ)) (t u : List ℕ) : Type 0 where
  pub part : List ℕ
  pub whole : u ≡ t ++ part
  pub bytes : Appends old new part

-- what the first i blocks of a job reach
pub record Reached (job : List ℕ) (i : ℕ) (s : State) (ps : List ℤ) (l : List Float) (rs : List ℕ) : Type 0 where
  pub state : s ≡ (ran (read_to job i)).state
  pub points : ps ≡ (ran (read_to job i)).points
  pub nodes : l ≡ (ran (read_to job i)).nodes
  pub rims : rs ≡ (ran (read_to job i)).rims
  pub numbered : s.ended ≡ false → s.block ≡ i
  pub within : s.ended ≡ false → 512 * i ≤ length job
  pub turns : i ≤ length job / 512 + 1

-- and what is drawn of them has so many bytes: no head is longer than 8,192, and nothing drawn of a block than 84,000
pub record Drew (job : List ℕ) (i sent : ℕ) : Type 0 where
  pub count : sent ≡ length (drawn_to (frame_of (extent_of job)) job i)
  pub bound : sent ≤ 8192 + 84000 * i

-- the run of a job has ended, and left so many nodes in the list l with the rim marks rs
pub record Left (job : List ℕ) (used : ℕ) (l : List Float) (rs : List ℕ) : Type 0 where
  pub count : used ≡ (whole_run job).state.used
  pub nodes : l ≡ (whole_run job).nodes
  pub rims : rs ≡ (whole_run job).rims

-- a failed read leaves a job within a block, so that the run is refused there. How many bytes there are of what was read:
abbrev pub torn : ℕ → ℕ
torn done = cond (eqb (done % 512) 0) (done + 1) done

abbrev pub counted : Result ℕ ReadFailed → ℕ
counted (Ok n) = n
counted (Err failed) = torn failed.done

-- the program that has read the list l has ended so: the picture of what was read is written, 256 rings at most, and what a failed read left is no whole
-- number of blocks; or there is more than that
abbrev pub Ends : List ℕ → End → Type 0
Ends l (Drawn read sent) = (sent ≡ length (pictured (take (counted read) l))) × (counted read ≤ 262144) × IfErr read (λ failed. 0 < counted read % 512)
Ends l (TooLong count) = 262144 < count

-- of a reader and a writer whose bytes are known: the picture of what was read was written, and that is all that the reader had, where no read failed; a failed
-- read came after the bytes that were read. What is too long has more than 256 rings, or a read failed after them, and nothing was written
abbrev pub Own : Option (List ℕ) → Option (List ℕ) → Option (List ℕ) → Option (List ℕ) → List ℕ → End → Type 0
Own old new out end l (Drawn read sent) =
    Appends out end (pictured (take (counted read) l))
    × IfOk read (λ n. IfSome old (λ xs. xs ≡ take n l))
    × IfErr read (λ failed. Consumes old new (take failed.done l))
Own old new out end l (TooLong count) = IfSome old (λ xs. 262144 ≤ length xs) × Appends out end []

-- and what it says of that, or of a write that failed
unfoldable pub said : Result End WriteFailed → List ℕ
said (Ok (Drawn read sent)) = []
said (Ok (TooLong count)) = bytes "picture: more than 256 rings\n"
said (Err failed) = bytes "picture: standard output failed\n"
