-- The bytes that a reader gave to a run, and what was written of them. What a reader or a writer over memory holds is known; of those of the operating system
-- it is not, and nothing is said of them here. Definitions only.
use Rattle.std.specs.Prelude.{ℕ, ◌*◌, ◌≡◌, ◌⊎◌, true, false, Bool, List, ◌++◌, length, Float, ℤ, Option, IfSome}
use Rattle.std.specs.Io.KnownBytes.{Consumes, Appends}
use Rattle.stream.specs.Reads.{Torn}
use Rattle.state.specs.declared.State.{State}
use Rattle.job.specs.Run.{Bytes, ran, read_to, whole_run}
use Rattle.telling.specs.Reached.{Wrote}

-- the reader gave l; and f has of l what it has of all that the reader had: no byte after l matters
pub record Whole {A : Type 0} (f : List ℕ → A) (old new : Option (List ℕ)) (l : List ℕ) : Type 0 where
  pub bytes : Consumes old new l
  pub same : IfSome old (λ xs. f xs ≡ f l)

-- it gave so many whole blocks, and then a read failed: the rest of l is part of a block
pub record Broken (old new : Option (List ℕ)) (l : List ℕ) : Type 0 where
  pub blocks : ℕ
  pub front : List ℕ
  pub part : List ℕ
  pub mid : Option (List ℕ)
  pub all : l ≡ front ++ part
  pub whole : length front ≡ 512 * blocks
  pub bytes : Consumes old mid front
  pub torn : Torn mid new part

-- n bytes were written, those that f has of what the reader gave
pub record Gives (f : List ℕ → List ℕ) (old new out end : Option (List ℕ)) (n : ℕ) : Type 0 where
  pub input : List ℕ
  pub bytes : Bytes input
  pub count : n ≡ length (f input)
  pub written : Appends out end (f input)
  pub read : Whole f old new input ⊎ Broken old new input

-- between two blocks: all that was stepped over is what the reader gave
pub record From (old now : Option (List ℕ)) (ended : Bool) (l : List ℕ) : Type 0 where
  pub going : ended ≡ false → Consumes old now l
  pub done : ended ≡ true → Whole whole_run old now l ⊎ Broken old now l

-- and the text of it was written
pub record UnderWay (old now out cur : Option (List ℕ)) (s : State) (ps : List ℤ) (l : List Float) (rs : List ℕ) (sent : ℕ) : Type 0 where
  pub wrote : Wrote s ps l rs sent
  pub read : From old now s.ended wrote.reached.input
  pub text : Appends out cur (ran (read_to wrote.reached.input wrote.reached.blocks)).text
