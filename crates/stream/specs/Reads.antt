-- What reads gave of a reader, where the bytes that it has left are known. Definitions only.
use Rattle.std.specs.Prelude.{ℕ, ◌<◌, ◌≡◌, ◌⊎◌, max, List, length, take, Option}
use Rattle.std.specs.Io.KnownBytes.{Consumes, IsAtEnd}

-- b is the next block of 512 bytes, or what is left of the input
pub record Next (old new : Option (List ℕ)) (b : List ℕ) : Type 0 where
  pub bytes : Consumes old new b
  pub ended : length b < 512 → IsAtEnd new

-- a read failed after so many bytes: b is part of a block, and these are its first; one place of it stands for a block of which none came
pub record Torn (old new : Option (List ℕ)) (b : List ℕ) : Type 0 where
  pub came : ℕ
  pub part : came < 512
  pub count : length b ≡ max came 1
  pub bytes : Consumes old new (take came b)

abbrev pub Reads : Option (List ℕ) → Option (List ℕ) → List ℕ → Type 0
Reads old new b = Next old new b ⊎ Torn old new b
