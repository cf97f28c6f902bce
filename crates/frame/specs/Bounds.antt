-- The extent of a job: the box of all points of its blocks, as places, up to the first block that is refused. Definitions only.
use Rattle.std.specs.Prelude.{ℕ, zero, suc, ◌+◌, ◌-◌, ◌*◌, ◌/◌, min, max, cond, List, length, ltb, ℤ, Result, Ok, Err}
use Rattle.blocks.specs.declared.Reading.{Reading}
use Rattle.blocks.specs.declared.Refused.{Refused}
use Rattle.blocks.specs.Blocks.{points, read_block}
use Rattle.job.specs.Run.{block_at}
use Rattle.svg.specs.Place.{origin, point_place}
use Rattle.frame.specs.Seen.{Reach, Layout}

-- before the first point
unfoldable pub no_point : Reach
no_point = record { left = 40000000; right = 0; bottom = 40000000; top = 0 }

unfoldable pub widen : Reach → ℕ → ℕ → Reach
widen e x y = record { left = min e.left x; right = max e.right x; bottom = min e.bottom y; top = max e.top y }

-- with the first i points
unfoldable pub widened : Reach → List ℤ → ℕ → Reach
widened e ps zero = e
widened e ps (suc i) = widen (widened e ps i) (point_place ps (i * 2)) (point_place ps (i * 2 + 1))

-- with a block and its points, ring or chain, 60 at most
unfoldable pub met : Reach → Reading → Reach
met e r = widened e r.points (min 60 (points r.block))

-- with the next n blocks of a job, from block i on: a refused block is the end
unfoldable pub extended : Reach → Result Reading Refused → (Reach → Reach) → Reach
extended e (Ok r) rest = rest (met e r)
extended e (Err x) rest = e

unfoldable pub extent_from : List ℕ → ℕ → ℕ → Reach → Reach
extent_from l zero i e = e
extent_from l (suc n) i e = extended e (read_block (block_at l i) i) (extent_from l n (suc i))

-- with all blocks
unfoldable pub extent_of : List ℕ → Reach
extent_of l = extent_from l (length l / 512) 0 no_point

-- ---- the frame
-- the step of the axes and the length of the scale bar: 1, 2 or 5 times a power of ten, at least an eighth of the size
unfoldable pub grown : ℕ → ℕ → ℕ
grown d size = cond (ltb size (d * 40)) d (d * 10)

unfoldable pub decade_to : ℕ → ℕ → ℕ
decade_to size zero = 1
decade_to size (suc i) = grown (decade_to size i) size

unfoldable pub step_for : ℕ → ℕ
step_for size =
    let d = decade_to size 7 in
    cond (ltb size (d * 8)) d (cond (ltb size (d * 16)) (d * 2) (d * 5))

-- a job with no point is drawn as a bare sheet of 10 by 10 mm
unfoldable pub or_bare_sheet : Reach → Reach
or_bare_sheet e = cond (ltb e.right e.left) (record { left = origin; right = origin + 100000; bottom = origin; top = origin + 100000 }) e

-- in an SVG y grows downward: low and high are the bottom and the top upside down. The margin is an eighth of the size, and the em,
-- by which letters and strokes go, a fortieth
abbrev pub upside_down : ℕ → ℕ
upside_down y = 40000000 - y

abbrev pub size : Reach → ℕ
size e = max (e.right - e.left) (e.top - e.bottom)

unfoldable pub framed : Reach → Layout
framed e =
    let size = size e in
    record {
      left = e.left;
      right = e.right;
      bottom = e.bottom;
      low = upside_down e.bottom;
      high = upside_down e.top;
      margin = size / 8 + 10;
      em = size / 40 + 1;
      step = step_for size;
    }

unfoldable pub frame_of : Reach → Layout
frame_of e = framed (or_bare_sheet e)
