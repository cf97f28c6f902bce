-- `draw_nodes`: each turn writes the text of one node.
use Prim.Native.Nat.{ℕ}
use mathlib.Core.Path.{◌≡◌, refl, ◌∙◌}
use lib.ListN.{length-replicate}
use Rattle.scene.specs.Scene.{node_text}
use Rattle.scene.proofs.Lengths.{node-length}
use Rattle.picture.proofs.Drawing.{on-page, as-long, within-page, no_nodes_lem, no_nodes_more, few-left}
use Rattle.picture.proofs.Drawing.{owes_node, more-nodes, node_more, all-nodes, all_nodes_more}
use native.Mathlib.Omega.{arith}
use Rattle.picture.proofs.draw_nodes.Goals as goal

pub loop-i-init : goal.loop-i-init
loop-i-init g c =
    record {
      sent = c.requires.1 ∙ no_nodes_lem c.args.job.now;
      bound = omega (arith, c.requires.2);
      left = c.requires.0;
      text = no_nodes_more c.args.job.now _;
    }

pub put_node-requires : goal.put_node-requires
put_node-requires g c =
    let a = c.args in
    let l = c.loop-i in (
      omega (arith, few-left _ _ _ _ l.invariant.left, c.loop-i-test.true),
      record { fits = omega (arith, node-length a.nodes.now a.rims.now l.i, length-replicate {A = ℕ} 256 0) },
    )

pub send-requires : goal.send-requires
send-requires g c =
    let a = c.args in
    let l = c.loop-i in
    let w = c.put_node.ensures in
    let n = node-length a.nodes.now a.rims.now l.i in
    let z = length-replicate {A = ℕ} 256 0 in
    let k = c.loop-i-test.true in
    let few = few-left _ _ _ _ l.invariant.left in (
      owes_node _ _ _ _ l.invariant.left l.i l.sent _ k
          (record { count = l.invariant.sent; bound = omega (arith, l.invariant.bound, k, few) })
          (on-page refl (omega (arith, w.text.place, n, z)) w),
      within-page refl (omega (arith, w.text.place, n, z)) w,
      omega (arith, as-long refl (omega (arith, w.text.place, n, z)) w, n),
    )

pub loop-i-preserved : goal.loop-i-preserved
loop-i-preserved g c =
    let a = c.args in
    let l = c.loop-i in
    let w = c.put_node.ensures in
    let n = node-length a.nodes.now a.rims.now l.i in
    let z = length-replicate {A = ℕ} 256 0 in
    let e = as-long refl (omega (arith, w.text.place, n, z)) w in
    let q = c.in_ok-send.ensures in
    record {
      sent = more-nodes _ _ _ _ l.invariant.left l.i l.sent _ (node_text a.nodes.now a.rims.now l.i) l.invariant.sent refl (omega (arith, q.count, e));
      bound = omega (arith, l.invariant.bound, q.count, e, n);
      left = l.invariant.left;
      text = node_more _ _ _ _ l.invariant.left l.i _ (on-page refl (omega (arith, w.text.place, n, z)) w) _ _ _ l.invariant.text q.bytes;
    }

pub returns : goal.returns
returns g c =
    let l = c.loop-i in
    let e : l.i ≡ c.args.used = omega (arith, l.auto.i-end, c.loop-i-test.false) in
    record {
      wrote = all-nodes _ _ _ _ l.invariant.left l.i l.sent e l.invariant.sent (omega (arith, l.invariant.bound, e, few-left _ _ _ _ l.invariant.left));
      bytes = all_nodes_more _ _ _ _ l.invariant.left l.i e _ _ l.invariant.text;
    }
