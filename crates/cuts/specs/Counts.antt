-- What is claimed of the split, 1: how many corners, parts, pieces and cuts there are.
use Rattle.std.specs.Prelude.{ℕ, ◌+◌, ◌*◌, ◌≤◌, ◌≡◌, List, [], ◌∷◌, length}
use Rattle.laws.specs.All.{All}
use Rattle.marks.specs.Part.{Part}
use Rattle.limits.specs.declared.Limits.{Limits}
use Rattle.split.specs.Split.{Stack}

-- a part has three corners or more, and as many edges
pub record Sound (p : Part) : Type 0 where
  pub three : 3 ≤ length p.points
  pub edged : length p.edges ≡ length p.points

abbrev pub corners : List Part → ℕ
corners [] = 0
corners (p ∷ ps) = length p.points + corners ps

-- of a ring of n corners
pub record Counted (L : Limits) (n : ℕ) (s : Stack) : Type 0 where
  -- the stack empties
  pub emptied : s.parts ≡ []
  pub sound : All Sound s.pieces
  -- no more cuts than the set allows, and at most n - 3
  pub most : s.cuts ≤ L.cuts
  pub few : s.cuts + 3 ≤ n
  -- "The pieces are s + 1"
  pub pieces : length s.pieces ≡ s.cuts + 1
  -- the corners of all pieces, one for each cell
  pub corners : corners s.pieces ≡ n + 2 * s.cuts
  -- the log holds each cut
  pub logged : length s.log ≡ s.cuts
