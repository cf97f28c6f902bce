-- `prepared`: the ring is cleaned, and of the marks given those stay that survive.
use native.Mathlib.Omega.{arith}
use mathlib.Core.Path.{ap}
use Rattle.vector.specs.declared.Ring.{Ring}
use Rattle.given_tests.specs.Lent.{lent_in}
use Rattle.divider.proofs.Preparing.{read}
use Rattle.marked.proofs.Refusing.{tested}
use Rattle.marked.proofs.Preparing.{marks-of, prepares}
use Rattle.marked.proofs.ByMarksRequest.prepared.Goals as goal

pub points-own-requires : goal.points-own-requires
points-own-requires c =
    let p = tested _ _ _ _ c.requires.1 in
    (p.few, omega arith, p.sheet)

pub surviving_marks-edges-requires : goal.surviving_marks-edges-requires
surviving_marks-edges-requires c =
    let r = c.args.self.ring.now in (
      marks-of c.requires.0 r (lent_in c.args.self.marking) c.args.self.size
          (tested _ _ _ _ c.requires.1) c.points-own.result c.points-own.ensures.1 (ap (λ (w : Ring). w.count) c.points-own.ensures.0)
          (read r c.points-own.result c.points-own.ensures.0) c.clean_polygon-clean.result c.clean_polygon-clean.ensures,
      (tested _ _ _ _ c.requires.1).outline,
    )

pub returns : goal.returns
returns c =
    let r = c.args.self.ring.now in
    prepares c.requires.0 r (lent_in c.args.self.marking) c.args.self.size
    (tested _ _ _ _ c.requires.1) c.points-own.result c.points-own.ensures.1 (ap (λ (w : Ring). w.count) c.points-own.ensures.0)
    (read r c.points-own.result c.points-own.ensures.0) c.clean_polygon-clean.result c.clean_polygon-clean.ensures c.surviving_marks-edges.result
    c.surviving_marks-edges.ensures
