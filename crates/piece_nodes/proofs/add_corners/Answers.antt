use mathlib.Core.Path.{sym, subst}
use Prim.Native.Nat.{◌≤◌, ◌<◌}
use lib.ListN.{length}
use Rattle.nodes.specs.Growth.{InRange}
use Rattle.piece_nodes.proofs.Adding as adding
use native.Mathlib.Omega.{arith}
use Rattle.piece_nodes.proofs.add_corners.Goals as goal

pub loop-i-init : goal.loop-i-init
loop-i-init c = adding.start _ c.requires.0.usable.room c.requires.2

pub add_node-r-requires : goal.add_node-r-requires
add_node-r-requires c =
    let l = c.loop-i in
    let t : l.i ≤ length c.args.points.now = omega arith in
    let h : l.i < length c.args.points.now = omega arith in (
      adding.usable c.requires.0 l.invariant t,
      subst InRange (sym c.new.ensures) (c.requires.0.ranged l.i h),
      adding.ahead c.requires.0 l.invariant h c.new.ensures,
      adding.held l.invariant c.requires.1,
    )

pub loop-i-preserved : goal.loop-i-preserved
loop-i-preserved c =
    adding.next c.loop-i.invariant (omega (arith, c.requires.0.few)) c.new.ensures c.add_node-r.ensures.0 c.add_node-r.ensures.1
