-- `any_near`: each turn takes one node more; a node in the box shows at the end.
use Prim.Native.Nat.{◌*◌, ◌<◌, ◌/◌}
use native.Mathlib.Omega.{arith}
use mathlib.Core.Path.{◌≡◌, refl, ap, ◌∙◌}
use mathlib.Core.List.{List, []}
use lib.Ieee.{Float, nan}
use lib.ListN.{length, get_or}
use Rattle.std.proofs.lemmas.Simd.{length-chunk}
use Rattle.laws.specs.Bounded.{any}
use Rattle.laws.proofs.Chunks.{chunk_is, chunk_at}
use Rattle.survey.proofs.Reached as reached
use Rattle.survey.proofs.any_near.Goals as goal

pub loop-p-init : goal.loop-p-init
unfolding any
loop-p-init c = refl

pub loop-p-preserved : goal.loop-p-preserved
loop-p-preserved c =
    let l = c.args.block.now in
    let q = c.loop-p in
    let e = c.as_chunks.ensures in
    let h : q.p-index < length l / 2 = omega (arith, c.loop-p-test.true, e.front_len) in
    let k : q.p-index < 8 = omega (arith, h, c.requires) in
    let p = ap (λ (ps : List (List Float)). get_or ps q.p-index []) e.front in
    reached.step c.args.w l q.p-index _ (
    ap length (p ∙ chunk_is 2 (length l / 2) q.p-index l h)
    ∙ length-chunk (q.p-index * 2) 2 l (omega (arith, k, c.requires))
    ) (λ i b. ap (λ (y : List Float). get_or y i nan) p ∙ chunk_at 2 (length l / 2) q.p-index i l nan h b) q.near q.invariant

pub returns : goal.returns
returns c =
    let a = c.args in
    let q = c.loop-p in
    let n : q.p-index ≡ 8 = omega (arith, c.loop-p-test.false, q.auto.p-index-end, c.as_chunks.ensures.front_len, c.requires) in
    λ e j k. reached.none-in a.w a.block.now 8 q.near (q.invariant ∙ ap (reached.reached a.w a.block.now) n) e j k
