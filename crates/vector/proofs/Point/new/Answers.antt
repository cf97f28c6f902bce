-- `Point::new`: every i32 is a double, so both conversions are exact.
use mathlib.Core.Path.{◌≡◌}
use lib.Ieee.{of_bits, of_int}
use mir.Syntax.{w32}
use mir.Val.{to_z, of_z}
use borrow.Author.Rules.{rules}
use Rattle.laws.specs.Units as Units
use Rattle.vector.specs.Plane as Plane
use Rattle.vector.proofs.Point.new.Goals as goal

pub returns : goal.returns
unfolding Plane.in_mm Units.mm of_int of_bits
returns c =
    let x : to_z w32 (of_z w32 c.args.p.x) ≡ c.args.p.x = search rules in
    let y : to_z w32 (of_z w32 c.args.p.y) ≡ c.args.p.y = search rules in
    rw (c.from.ensures, c.from-2.ensures, x, y)
