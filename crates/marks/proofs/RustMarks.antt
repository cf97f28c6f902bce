-- Claim: the marks' test is the Rust's. For an edge from a to b and neighbours p, q of the simplified chain, all on the sheet, the
-- Rust's distances in mm, `<= 1.0e-9` each, in either sense, hold exactly if the ends are the same points in that sense, which
-- is what `joins` says (`same-marks`).
use mathlib.Core.Path.{◌≡◌, sym, ap, ◌∙◌}
use mathlib.Core.Bool.{Bool, ◌&&◌, ◌||◌}
use Rattle.laws.specs.Double.{◌≤f◌, lit}
use Rattle.laws.proofs.Booleans.{and_comm}
use Rattle.vector.specs.declared.GridPoint.{GridPoint}
use Rattle.vector.specs.declared.Point.{Point}
use Rattle.vector.specs.Grid.{same}
use Rattle.vector.specs.Plane.{in_mm}
use Rattle.vector.specs.Size.{OnSheet}
use Rattle.vector.proofs.Same.{same_comm}
use Rattle.root.specs.Norm.{dist}
use Rattle.root.proofs.ZeroLengths.{from_9, rust_near-is-same}
use Rattle.chain.specs.Chain.{Stretch}
use Rattle.marks.specs.Marks.{joins}

-- the Rust's `same`, in mm
abbrev pub rust_joins : Point → Point → Point → Point → Bool
rust_joins a b p q = (dist a p ≤f lit 1 9) && (dist b q ≤f lit 1 9) || (dist a q ≤f lit 1 9) && (dist b p ≤f lit 1 9)

near_9 : (a b : GridPoint) → OnSheet a → OnSheet b → (dist (in_mm a) (in_mm b) ≤f lit 1 9) ≡ same b a
near_9 a b h k = rust_near-is-same (lit 1 9) from_9.0 from_9.1 a b h k ∙ same_comm a b

pub same-marks : (a b : GridPoint) (s : Stretch) → OnSheet a → OnSheet b → OnSheet s.from → OnSheet s.to
    → joins a b s ≡ rust_joins (in_mm a) (in_mm b) (in_mm s.from) (in_mm s.to)
unfolding joins
same-marks a b s ha hb hp hq =
    let u = near_9 a s.from ha hp in
    let v = near_9 b s.to hb hq in
    let x = near_9 a s.to ha hq in
    let y = near_9 b s.from hb hp in
    sym ((λ i. u i && v i || x i && y i) ∙ ap (λ (t : Bool). same s.from a && same s.to b || t) (and_comm (same s.to a) (same s.from b)))
