-- `split_bad_vertices`: the start shows the ring alone, and what is left after all pops is read off.
use Rattle.std.proofs.Common.{◌≡◌, ℕ, ◌≤◌, List, length, take, refl, ap, ◌∙◌, arith}
use lib.ListN.{get_or-replicate}
use lib.Seq.{get_or-take, length-take-le}
use Rattle.vector.specs.Rings.{most_points}
use Rattle.parts.specs.declared.list.Vertex.{Vertex}
use Rattle.parts.specs.Vertices.{no_vertex, blank}
use Rattle.parts.proofs.Segments.{same_vertex}
use Rattle.split.specs.Split.{split_bad_vertices}
use Rattle.split.specs.State.{Own}
use Rattle.split.proofs.Popped as Popped
use Rattle.split.proofs.split_bad_vertices.Goals as goal

-- the first n of the ring's own corners
own-length : (vs : List Vertex) (n : ℕ) → length vs ≡ most_points → n ≤ most_points → length (take n vs) ≡ n
own-length vs n e h = length-take-le n vs (omega (arith, e))

own-front : (vs : List Vertex) (n : ℕ) → Own vs most_points → n ≤ most_points → Own (take n vs) n
own-front vs n e h i l =
    let g = get_or-take n vs i no_vertex l in
    let o = e i (omega arith) in
    (ap (λ (v : Vertex). v.at) g ∙ o.0, ap (λ (v : Vertex). v.edge) g ∙ o.1)

pub pops-requires : goal.pops-requires
pops-requires c =
    let p = c.push in
    let n = own-length c.own_corners.result c.args.ring.now.count c.own_corners.ensures.0 c.requires.0.count in (
      Popped.within-start _ _ (take c.args.ring.now.count c.own_corners.result) _ _ _ _ _ _ p.new.self p.ensures
          (λ i l. get_or-replicate 124 i _ no_vertex l ∙ same_vertex _ blank refl refl) (omega (arith, n, c.requires.0.count)),
      c.requires.0.points,
      c.requires.2,
    )

pub returns : goal.returns
unfolding split_bad_vertices
returns c =
    let q = c.pops in
    let p = c.push in
    let ring = c.args.ring.now in
    let v = c.own_corners in
    let sl = take ring.count v.result in
    let n = own-length v.result ring.count v.ensures.0 c.requires.0.count in (
      λ es len. Popped.shows-end ring.points es q.new.self _
          (q.ensures.1 es len _
          (Popped.follows-begin _ _ sl _ _ _ _ _ _ p.new.self p.ensures ring.points es ring.count n
          (omega (arith, c.requires.0.count, c.requires.0.places))
          (omega (arith, len, c.requires.0.count)) (own-front v.result ring.count v.ensures.1 c.requires.0.count))),
      Popped.held-end q.new.self q.ensures.0,
      q.ensures.0.packed,
    )
