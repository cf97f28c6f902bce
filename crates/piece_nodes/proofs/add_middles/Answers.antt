use mathlib.Core.Path.{◌≡◌, refl, sym, ap, ◌∙◌, subst}
use Prim.Native.Nat.{ℕ, suc, ◌<◌}
use lib.ListN.{length, get_or, take}
use Rattle.laws.specs.Bounded.{any}
use Rattle.laws.proofs.Search.{any_next}
use Rattle.vector.specs.declared.Point.{Point}
use Rattle.marks.specs.declared.EdgeMark.TheVariants.{Straight}
use Rattle.nodes.specs.Nodes.{node_at}
use Rattle.nodes.specs.Growth.{InRange}
use Rattle.nodes.specs.Flat.{nodes_in}
use Rattle.quads.specs.declared.Middle.{Middle}
use Rattle.piece_nodes.specs.Adding.{end_at}
use Rattle.quads.specs.Flat.{middle_of}
use Rattle.piece_nodes.proofs.Adding as adding
use Rattle.quads.proofs.Turns as turns
use native.Mathlib.Omega.{arith}
use Rattle.piece_nodes.proofs.add_middles.Goals as goal
use Rattle.piece_nodes.proofs.add_middles.Goals.{After-edge_middle-m}

-- the middle of edge i is that of the definition
abbrev Mid : After-edge_middle-m → Type 0
Mid c =
    let a = c.args in
    let i = c.loop-i.i in
    c.edge_middle-m.result ≡ middle_of a.share (get_or (take (length a.vs.now) a.marks.now) i Straight) (end_at a.nodes.now a.used a.vs.now (length a.vs.now) i)
    (end_at a.nodes.now a.used a.vs.now (length a.vs.now) (suc i))

mid : (c : After-edge_middle-m) → Mid c
mid c =
    let a = c.args in
    let l = c.loop-i in
    let t : l.i < length c.args.vs.now = omega (arith, c.requires.2) in
    let get : ℕ → Point = λ k. node_at (nodes_in a.nodes.now a.used) k in
    let j = ap (λ (k : ℕ). get_or a.vs.now k 0) c.next-j.ensures.0 ∙ turns.after a.vs.now (length a.vs.now) l.i t in
    let p =
    c.node_at-a.ensures ∙ adding.read l.invariant.0 _ (c.requires.1 l.i t) ∙ ap get (turns.here a.vs.now (length a.vs.now) l.i t) in
    let q = c.node_at-b.ensures ∙ adding.read l.invariant.0 _ (c.requires.1 _ c.next-j.ensures.1) ∙ ap get j in
    c.edge_middle-m.ensures ∙ (λ i. middle_of a.share (turns.mark a.marks.now (length a.vs.now) l.i _ t refl i) (p i) (q i))

pub loop-i-init : goal.loop-i-init
unfolding any
loop-i-init c = (adding.start _ c.requires.0.usable.room c.requires.4, refl)

pub add_node-r-requires : goal.add_node-r-requires
add_node-r-requires c =
    let l = c.loop-i in
    let t : l.i < length c.args.vs.now = omega (arith, c.requires.2) in
    let r = c.requires.0 in
    let e = ap (λ (m : Middle). m.at) (mid (goal.at.add_node-r-requires c).After-edge_middle-m) in (
      adding.usable r l.invariant.0 (omega (arith, c.requires.2)),
      subst InRange (sym e) (r.ranged l.i t),
      adding.ahead r l.invariant.0 t e,
      adding.held l.invariant.0 c.requires.3,
    )

pub loop-i-preserved : goal.loop-i-preserved
loop-i-preserved c =
    let m = mid (goal.at.loop-i-preserved c).After-edge_middle-m in
    let l = c.loop-i in (
      adding.next l.invariant.0 (omega (arith, c.loop-i-test.true, c.requires.0.few))
          (ap (λ (m : Middle). m.at) m) c.add_node-r.ensures.0 c.add_node-r.ensures.1,
      any_next _ l.i l.far _ l.invariant.1 (ap (λ (m : Middle). m.far) m),
    )
