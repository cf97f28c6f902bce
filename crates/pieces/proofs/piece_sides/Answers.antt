use Prim.Native.Nat.{◌+◌}
use mathlib.Core.Path.{◌≡◌, refl, ap, ◌∙◌}
use mathlib.Core.Bool.{false}
use lib.ListN.{length-set}
use lib.Dec.{ltb}
use lib.Seq.{get_or-set_other}
use Rattle.laws.proofs.Lists.{all_same}
use Rattle.laws.proofs.Table.{more, tab_none, get_d_tab}
use Rattle.parts.specs.declared.list.Vertex.{Vertex}
use Rattle.parts.specs.Vertices.{no_vertex, vertex}
use Rattle.parts.specs.Layout.{end, size}
use Rattle.std.proofs.lemmas.List.{get_or_read}
use Rattle.pieces.proofs.Sides.{side_of, sides-are}
use native.Mathlib.Omega.{arith}
use Rattle.pieces.proofs.piece_sides.Goals as goal

pub loop-j-init : goal.loop-j-init
loop-j-init c = (refl, tab_none _, λ k h. all_same (λ x. x ≡ false) false 60 false refl refl k)

pub loop-j-preserved : goal.loop-j-preserved
loop-j-preserved c =
    let o = c.loop-j in
    let p = c.args.pieces.now in
    let a = end p c.args.i in
    let part = c.part-c-items in
    let corner =
    get_or_read part.result.now o.j c.c-item.result (omega arith) c.c-item.is no_vertex ∙ ap (λ l. vertex l o.j) part.ensures.corners
    ∙ get_d_tab (λ k. vertex p.corners (a + k)) (size p c.args.i) o.j no_vertex (omega (arith, part.ensures.size.0)) in (
      length-set o.out o.j _ ∙ o.invariant.0,
      more (side_of p a) o.out o.j _ (omega (arith, o.invariant.0, part.ensures.size.2)) o.invariant.1 (ap (λ (v : Vertex). ltb v.edge 60) corner),
      λ k h. get_or-set_other o.out o.j k _ false (λ d. omega (arith, d)) ∙ o.invariant.2 k (omega arith),
    )

pub returns : goal.returns
returns c =
    let p = c.args.pieces.now in
    let part = c.part-c-items in
    let e : c.loop-j.j ≡ size p c.args.i = omega (arith, part.ensures.size.0) in
    sides-are p c.args.i c.requires c.loop-j.out (rw e at c.loop-j.invariant.1) (λ k h. c.loop-j.invariant.2 k (omega (arith, h, e)))
