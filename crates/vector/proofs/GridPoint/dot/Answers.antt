-- `GridPoint::dot`: the two products and their sum fit.
use Prim.Native.Nat.{◌^◌}
use lib.Dec.{lit≤}
use Rattle.vector.specs.Grid as Grid
use Rattle.vector.proofs.Products as products
use Rattle.vector.proofs.GridPoint.dot.Goals as goal

pub overflow_add-result : goal.overflow_add-result
overflow_add-result c =
    let p = c.prod in
    let q = c.prod-2 in
    products.add-fits (2 ^ 24) (lit≤ tt)
    p.result c.args.self.x c.args.b.x c.requires.0.x c.requires.1.x p.ensures
    q.result c.args.self.y c.args.b.y c.requires.0.y c.requires.1.y q.ensures

pub returns : goal.returns
unfolding Grid.dot
returns c =
    let p = c.prod in
    let q = c.prod-2 in
    products.added (2 ^ 24) (lit≤ tt)
    p.result c.args.self.x c.args.b.x c.requires.0.x c.requires.1.x p.ensures
    q.result c.args.self.y c.args.b.y c.requires.0.y c.requires.1.y q.ensures _ (lit≤ tt)
