use mathlib.Core.Path.{◌≡◌, refl, sym, ap, ◌∙◌}
use Prim.Native.Nat.{ℕ, ◌+◌, ◌*◌, ◌≤◌}
use lib.ListN.{length, take, length-take, length-drop}
use lib.Seq.{length-take-le, take_all}
use Rattle.std.specs.Prelude.{Option, Some, None}
use Rattle.vector.proofs.Rings as rings
use Rattle.marks.specs.Part.{Part}
use Rattle.pieces.proofs.Course as course
use Rattle.pieces.proofs.Course.{Read}
use native.Mathlib.Omega.{arith}
use Rattle.pieces.proofs.subdivide_all.Goals as goal
use Rattle.pieces.proofs.subdivide_all.Goals.{After-piece_sides-sides}

-- piece i has been read
abbrev piece : After-piece_sides-sides → Part
piece c =
    let n = c.piece_points-corners.result.count in
    let ps = take n c.piece_points-corners.result.points in
    record { points = ps; edges = take (length ps) (take n c.piece_marks-marks.result) }

read : (c : After-piece_sides-sides) →
    Read c.args.ring.now.ring.points c.args.ring.now.edges c.args.pieces.now c.loop-i.i c.piece_points-corners.result.count (piece c) c.piece_sides-sides.result
read c =
    let a = c.args in
    let q = c.piece_points-corners in
    let n = q.result.count in
    let ms = c.piece_marks-marks.result in
    let e = q.ensures.0 a.ring.now.edges in
    let h : length (take n q.result.points) ≡ n = length-take-le n q.result.points (rings.room q.result q.ensures.1) in
    let l : length (take n ms) ≤ n = simp length-take (omega arith) in
    let w =
    ap (λ (k : ℕ). take k (take n ms)) h ∙ take_all n (take n ms) l ∙ ap (λ (k : ℕ). take k ms) q.ensures.2
    ∙ c.piece_marks-marks.ensures.0 a.ring.now.ring.points in
    record {
      count = c.loop-i-test.true;
      corners = sym h ∙ ap length e;
      is = λ j. record { points = e j; edges = w j };
      sides = c.piece_sides-sides.ensures a.ring.now.ring.points;
    }

-- its cells have room from place `at` on
room : (c : After-piece_sides-sides) → let o = c.loop-i in o.at * 4 + c.piece_points-corners.result.count * 4 ≤ length o.cells
room c = course.cell_room c.requires.0 _ c.loop-i.invariant (read c)

pub loop-i-init : goal.loop-i-init
loop-i-init c = course.start c.requires.0 _

pub overflow_mul-start : goal.overflow_mul-start
overflow_mul-start c = omega (arith, room (goal.at.overflow_mul-start c).After-piece_sides-sides, c.loop-i.auto.cells, c.well_formed.1.1.1.0)

pub offset_bounds-cells-start : goal.offset_bounds-cells-start
offset_bounds-cells-start c = omega (arith, room (goal.at.offset_bounds-cells-start c).After-piece_sides-sides, c.loop-i.auto.cells, c.well_formed.1.1.1.0)

pub slice_bounds-subdivide-count : goal.slice_bounds-subdivide-count
slice_bounds-subdivide-count c = omega (arith, room (goal.at.slice_bounds-subdivide-count c).After-piece_sides-sides)

pub slice_bounds-subdivide-start : goal.slice_bounds-subdivide-start
slice_bounds-subdivide-start c = omega (arith, room (goal.at.slice_bounds-subdivide-start c).After-piece_sides-sides)

pub subdivide-t-requires : goal.subdivide-t-requires
subdivide-t-requires c =
    let r = read (goal.at.subdivide-t-requires c).After-piece_sides-sides in (
      course.can c.requires.0 _ c.loop-i.invariant r,
      simp (length-take, length-drop) (omega (arith, room (goal.at.subdivide-t-requires c).After-piece_sides-sides)),
      course.held c.requires.0 _ c.loop-i.invariant c.requires.2,
      course.rim-room c.requires.0 _ c.loop-i.invariant r c.requires.1,
    )

pub returns-in-Some : goal.returns-in-Some
returns-in-Some c =
    course.after-failure c.requires.0 _ c.loop-i.invariant (read (goal.at.returns-in-Some c).After-piece_sides-sides) c.subdivide-t.ensures
    (omega arith) (c.fill.ensures.after (λ y e. e)) c.in-Some.is

pub overflow_add-at : goal.overflow_add-at
overflow_add-at c =
    omega (arith, room (goal.at.overflow_add-at c).After-piece_sides-sides, c.loop-i.auto.cells, c.well_formed.1.1.1.0)

none-of : (o : Option ℕ) → ((k : ℕ) → o ≡ Some k → ⊥) → o ≡ None
none-of None h = refl
none-of (Some k) h = absurd (h k refl)

pub loop-i-preserved : goal.loop-i-preserved
loop-i-preserved c =
    course.go_on c.requires.0 _ c.loop-i.invariant
    (read (goal.at.loop-i-preserved c).After-piece_sides-sides) c.subdivide-t.ensures (none-of _ c.in_default.not-Some)
