-- `piece_marks`: each place filled is the mark of one edge more.
use Rattle.std.proofs.Common.{◌≡◌, ℕ, ◌+◌, refl, ap, ◌∙◌, arith, get_or, get_or-set_other}
use lib.ListN.{length-set}
use Rattle.std.proofs.lemmas.List.{get_or_read}
use Rattle.std.specs.Option.{unwrap_or}
use Rattle.parts.specs.declared.list.Vertex.{Vertex}
use Rattle.laws.proofs.Lists.{all_same}
use Rattle.laws.proofs.Table.{more, tab_none, get_d_tab}
use Rattle.marks.specs.declared.EdgeMark.{EdgeMark}
use Rattle.marks.specs.declared.EdgeMark.TheVariants.{Straight}
use Rattle.parts.specs.Vertices.{no_vertex, vertex, edge_at}
use Rattle.parts.specs.Layout.{end, size}
use Rattle.parts.proofs.Pieces.{mark-read}
use Rattle.parts.proofs.piece_marks.Goals as goal

pub loop-j-init : goal.loop-j-init
loop-j-init c = (refl, tab_none _, λ k h. all_same (λ x. x ≡ Straight) Straight 60 Straight refl refl k)

pub loop-j-preserved : goal.loop-j-preserved
loop-j-preserved c =
    let o = c.loop-j in
    let marks = c.args.marks.now in
    let p = c.args.pieces.now in
    let part = c.part-c-items in
    let f : ℕ → EdgeMark = (λ k. edge_at marks p.corners (end p c.args.i + k)) in
    let corner = ap (λ l. vertex l o.j) part.ensures.corners
    ∙ get_d_tab (λ k. vertex p.corners (end p c.args.i + k)) (size p c.args.i) o.j no_vertex (omega (arith, part.ensures.size.0)) in
    let read = c.unwrap_or.ensures ∙ ap (λ r. unwrap_or r Straight) c.copied.ensures
    ∙ mark-read marks c.from.result c.get-mark.result c.get-mark.ensures.lookup in
    let e : c.unwrap_or.result ≡ f o.j = read ∙ ap (λ k. get_or marks k Straight)
    (c.from.ensures ∙ ap (λ (v : Vertex). v.edge) (get_or_read part.result.now o.j c.c-item.result (omega arith) c.c-item.is no_vertex ∙ corner)) in (
      length-set o.out o.j _ ∙ o.invariant.0,
      more f o.out o.j c.unwrap_or.result (omega (arith, o.invariant.0, part.ensures.size.2)) o.invariant.1 e,
      λ k h. get_or-set_other o.out o.j k _ Straight (λ d. omega (arith, d)) ∙ o.invariant.2 k (omega arith),
    )
