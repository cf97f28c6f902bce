-- `GridPoint::cross`: the two products and their difference fit.
use Prim.Native.Nat.{◌^◌}
use lib.Dec.{lit≤}
use Rattle.vector.specs.Grid as Grid
use Rattle.vector.proofs.Products as products
use Rattle.vector.proofs.GridPoint.cross.Goals as goal

pub overflow_sub-result : goal.overflow_sub-result
overflow_sub-result c =
    let p = c.prod in
    let q = c.prod-2 in
    products.sub-fits (2 ^ 24) (lit≤ tt)
    p.result c.args.self.x c.args.b.y c.requires.0.x c.requires.1.y p.ensures
    q.result c.args.self.y c.args.b.x c.requires.0.y c.requires.1.x q.ensures

pub returns : goal.returns
unfolding Grid.cross
returns c =
    let p = c.prod in
    let q = c.prod-2 in
    products.taken (2 ^ 24) (lit≤ tt)
    p.result c.args.self.x c.args.b.y c.requires.0.x c.requires.1.y p.ensures
    q.result c.args.self.y c.args.b.x c.requires.0.y c.requires.1.x q.ensures _ (lit≤ tt)
