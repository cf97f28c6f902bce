-- `draw_step`: the text that was put is what is owed, and what is written.
use Prim.Native.Nat.{ℕ}
use mathlib.Core.Path.{refl, subst}
use lib.ListN.{length-replicate}
use Rattle.std.proofs.lemmas.Result.{on_ok_weaker}
use Rattle.std.specs.Io.KnownBytes.{Appends}
use Rattle.picture.proofs.Drawing.{owed_as, on-page, within-page}
use native.Mathlib.Omega.{arith}
use Rattle.picture.proofs.draw_step.Goals as goal

pub send-requires : goal.send-requires
send-requires g c =
    let w = c.put_step.ensures in
    let n = length-replicate {A = ℕ} 84000 0 in
    (owed_as (on-page refl (omega (arith, w.1, n)) w.0) c.requires.0, within-page refl (omega (arith, w.1, n)) w.0, omega (arith, w.1))

pub returns-clause-bytes : goal.returns-clause-bytes
returns-clause-bytes g c =
    let w = c.put_step.ensures in
    let n = length-replicate {A = ℕ} 84000 0 in
    let out = g.W.Write.contents in
    on_ok_weaker c.send.result (subst (Appends (out c.args.output.now) (out c.send.new.output)) (on-page refl (omega (arith, w.1, n)) w.0)) c.send.ensures.bytes
