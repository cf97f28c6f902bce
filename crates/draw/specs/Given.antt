-- The bytes that a reader gave to a run of `draw`, and what was written of them. What a reader or a writer over memory holds is known; of those of the
-- operating system it is not, and nothing is said of them here. Definitions only.
use Rattle.std.specs.Prelude.{ℕ, ◌≡◌, ◌⊎◌, Option, None, List, [], ◌∷◌, ◌++◌, length, IfSome, MatchOption}
use Rattle.std.specs.Io.KnownBytes.{Consumes, Appends, IsAtEnd}
use Rattle.drawing.specs.declared.held.Drawing.{Drawing}
use Rattle.drawing.specs.Parsing.{drawn}
use Rattle.draw.specs.declared.Ended.{Ended}
use Rattle.draw.specs.Reached.{over, whole, Reached, ending}

-- what a read of one byte gave: the reader's next byte, or that it has no more
abbrev pub Gave : Option (List ℕ) → Option (List ℕ) → Option ℕ → Type 0
Gave old new b = MatchOption b (Consumes old new [] × IsAtEnd new) (λ x. Consumes old new (x ∷ []))

-- nothing is wrong with the bytes t so far
abbrev pub Good : List ℕ → Type 0
Good t = (over t).parser.state.draft.wrong ≡ None

-- something is wrong with them from their last byte on
pub record Stopped (t : List ℕ) : Type 0 where
  pub before : List ℕ
  pub last : ℕ
  pub all : t ≡ before ++ (last ∷ [])
  pub good : Good before
  pub bad : Good t → ⊥

-- "A bad line ends the run": the reader gave a text up to its end, or up to the byte that something is wrong with; `drawn` of it was written, and what is wrong
-- with it is said. No byte that the reader still has matters
pub record Gives (old new out end : Option (List ℕ)) (r : Ended) : Type 0 where
  pub text : List ℕ
  pub bytes : Consumes old new text
  pub read : (Good text × IsAtEnd new) ⊎ Stopped text
  pub same : IfSome old (λ xs. whole xs ≡ whole text)
  pub said : r ≡ ending (whole text).parser.state (length (drawn text))
  pub written : Appends out end (drawn text)

-- a read failed after the bytes of a text with which nothing is wrong so far: the rings that are complete in it were written
pub record Broken (old new out end : Option (List ℕ)) : Type 0 where
  pub text : List ℕ
  pub bytes : Consumes old new text
  pub good : Good text
  pub written : Appends out end (over text).blocks

-- between two bytes: all that was stepped over is what the reader gave, and its blocks were written
pub record UnderWay (old now out cur : Option (List ℕ)) (d : Drawing) (sent : ℕ) : Type 0 where
  pub reached : Reached d sent
  pub bytes : Consumes old now reached.text
  pub read : Good reached.text ⊎ Stopped reached.text
  pub written : Appends out cur (over reached.text).blocks
