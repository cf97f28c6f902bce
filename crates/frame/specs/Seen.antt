-- What clauses see of an extent and of a frame: their numbers, and what bounds them. Definitions only.
use Rattle.std.specs.Prelude.{ℕ, ◌≤◌, ◌<◌}

pub record Reach : Type 0 where
  pub left : ℕ
  pub right : ℕ
  pub bottom : ℕ
  pub top : ℕ

pub record Layout : Type 0 where
  pub left : ℕ
  pub right : ℕ
  pub bottom : ℕ
  pub low : ℕ
  pub high : ℕ
  pub margin : ℕ
  pub em : ℕ
  pub step : ℕ

-- what bounds an extent, and a frame
pub record Small (e : Reach) : Type 0 where
  pub left : e.left ≤ 40000000
  pub right : e.right ≤ 40000000
  pub bottom : e.bottom ≤ 40000000
  pub top : e.top ≤ 40000000

pub record SmallFrame (f : Layout) : Type 0 where
  pub left : f.left ≤ 40000000
  pub right : f.right ≤ 40000000
  pub bottom : f.bottom ≤ 40000000
  pub low : f.low ≤ 40000000
  pub high : f.high ≤ 40000000
  pub margin : f.margin ≤ 10000000
  pub em : f.em ≤ 2000000
  pub some : 0 < f.step
  pub step : f.step ≤ 400000000
