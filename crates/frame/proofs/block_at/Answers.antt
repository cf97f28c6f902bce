-- `block_at`: a whole block, or what is left.
use Prim.Native.Nat.{◌*◌, ◌-◌, min}
use mathlib.Core.Path.{◌≡◌, ap, ◌∙◌}
use native.Mathlib.Omega.{arith}
use lib.ListN.{length, take, drop, length-drop}
use lib.Seq.{take_all}
use Rattle.std.proofs.lemmas.List.{take_min}
use Rattle.frame.proofs.block_at.Goals as goal

pub returns : goal.returns
returns c =
    let d = drop (512 * c.args.i) c.args.job.now in
    let n = length c.args.job.now - 512 * c.args.i in
    let k : c.min.result ≡ min 512 (length (take n d)) = omega (arith, c.min.ensures) in
    ap (λ m. take m (take n d)) k
    ∙ take_min 512 (take n d)
    ∙ ap (take 512) (take_all n d (omega (arith, length-drop (512 * c.args.i) c.args.job.now)))
