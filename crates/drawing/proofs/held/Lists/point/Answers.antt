-- `point`: laws in proofs/Points.
use Rattle.drawing.proofs.Points.{not_open, ring_full, ring_more, chain_full, chain_more}
use Rattle.drawing.specs.Drawing.{point_of}
use mathlib.Core.Path.{◌≡◌, ◌∙◌}
use mathlib.Core.List.{List, ◌++◌}
use Prim.Native.Nat.{◌*◌}
use lib.ListN.{take}
use lib.IntN.{ℤ}
use mir.Syntax.{w32}
use mir.Val.{to_z, of_z, SFits}
use mir.ValLaws.{to_z-of_z}
use Rattle.drawing.proofs.held.Lists.point.Goals as goal

-- a coordinate that is passed on is the same
as_passed : (x y : ℤ) → SFits w32 x → SFits w32 y → (ps : List ℤ) → ps ++ point_of (to_z w32 (of_z w32 x)) (to_z w32 (of_z w32 y)) ≡ ps ++ point_of x y
as_passed x y f g ps = λ j. ps ++ point_of (to_z-of_z w32 x f j) (to_z-of_z w32 y g j)

pub returns-in-Closed : goal.returns-in-Closed
returns-in-Closed c =
    let a = c.args in
    not_open a.x a.y a.o a.self.now.ring a.self.now.chain a.self.now.out c.requires c.fails.result c.in-Closed.is c.fails.ensures

pub returns-in-None : goal.returns-in-None
returns-in-None c =
    let a = c.args in
    ring_full a.x a.y a.o a.self.now.ring a.self.now.chain
    a.self.now.out c.requires c.in-Ring.is _ c.fails-in-None.result c.in-None.ensures c.fails-in-None.ensures

pub returns-in-Some : goal.returns-in-Some
returns-in-Some c =
    let a = c.args in
    ring_more a.x a.y a.o a.self.now.ring a.self.now.chain a.self.now.out c.requires c.in-Ring.is c.put_point.new.places c.in-Some.corners
    (c.in-Some.ensures.0, c.in-Some.ensures.1, c.in-Some.ensures.2 ∙ as_passed a.x a.y c.ranges.x c.ranges.y (take (a.o.corners * 2) a.self.now.ring))

pub returns-in-None-put_point : goal.returns-in-None-put_point
returns-in-None-put_point c =
    let a = c.args in
    chain_full a.x a.y a.o a.self.now.ring a.self.now.chain a.self.now.out c.requires c.in-Chain.is _ c.fails-in-None-put_point.result
    c.in-None-put_point.ensures c.fails-in-None-put_point.ensures

pub returns-in-Some-put_point : goal.returns-in-Some-put_point
returns-in-Some-put_point c =
    let a = c.args in
    chain_more a.x a.y a.o a.self.now.ring a.self.now.chain
    a.self.now.out c.requires c.in-Chain.is c.put_point-in-Chain.new.places c.in-Some-put_point.chain_points (
      c.in-Some-put_point.ensures.0,
      c.in-Some-put_point.ensures.1,
      c.in-Some-put_point.ensures.2 ∙ as_passed a.x a.y c.ranges.x c.ranges.y (take (a.o.chain_points * 2) a.self.now.chain),
    )
