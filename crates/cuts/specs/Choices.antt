-- What is claimed of the split, 3: "Each cut starts at the worst corner of a part that has a bad one. A piece has a bad corner only if s is 32 or no diagonal
-- from its worst corner meets the rule." And of Card 11: no cut runs over a third corner.
use Rattle.std.specs.Prelude.{ℕ, ◌+◌, ◌<◌, ◌≡◌, ◌⊎◌, not, length, T}
use Rattle.vector.specs.Grid.{at}
use Rattle.segments.specs.Meeting.{strictly_between}
use Rattle.marks.specs.Part.{Part}
use Rattle.limits.specs.declared.Limits.{Limits}
use Rattle.corner.specs.Corner.{measure_at, bad, Worst}
use Rattle.parts.specs.Cut.{rotate}
use Rattle.split.specs.Diagonals.{Best, NoneMeets}
use Rattle.split.specs.Split.{Cut}

-- a cut that was made starts at the worst corner of its part, which is bad, and ends where the best diagonal does
pub record CutAtWorst (L : Limits) (c : Cut) : Type 0 where
  pub worst : Worst c.part.points c.v
  pub bad : T (bad L (measure_at c.part.points c.v))
  pub best : Best L (rotate c.v c.part.points) c.k

-- a cut that runs over no third corner: no corner of its part is strictly between its ends on their line
pub record Clear (c : Cut) : Type 0 where
  pub between : (j : ℕ) → j < length c.part.points
      → T (not (strictly_between (at c.part.points c.v) (at c.part.points (c.v + c.k)) (at c.part.points j)))

-- a piece, c cuts made in all: if any corner of it is bad, the cuts are spent or no diagonal from its worst corner meets the rule
pub record WhyUncut (L : Limits) (c : ℕ) (p : Part) : Type 0 where
  pub v : ℕ
  pub worst : Worst p.points v
  pub why : (j : ℕ) → j < length p.points → T (bad L (measure_at p.points j)) → (c ≡ L.cuts) ⊎ NoneMeets L (rotate v p.points)
