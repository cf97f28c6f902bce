-- `picture`: the head, what is drawn of the job, and the foot are the whole.
use Prim.Native.Nat.{ℕ}
use mathlib.Core.Path.{refl, ap, ◌∙◌, subst}
use lib.ListN.{length-replicate}
use Rattle.frame.specs.Bounds.{frame_of}
use Rattle.frame.proofs.Lengths.{head-length, foot_length}
use Rattle.picture.proofs.Drawing.{on-page, as-long, within-page, owed_as, owes_head, owes_foot, foot-last, all_written}
use Rattle.std.proofs.lemmas.Result.{on_ok_weaker}
use Rattle.std.specs.Io.KnownBytes.{Appends}
use native.Mathlib.Omega.{arith}
use Rattle.picture.proofs.picture.Goals as goal

pub put_head-requires : goal.put_head-requires
put_head-requires g c = record { fits = omega (arith, head-length c.frame_of-f.result, length-replicate {A = ℕ} 8192 0) }

pub send-requires : goal.send-requires
send-requires g c =
    let w = c.put_head.ensures in
    let z = length-replicate {A = ℕ} 8192 0 in
    let e = c.frame_of-f.ensures ∙ ap frame_of c.extent_of.ensures in (
      owed_as (on-page refl (omega (arith, w.0.text.place, w.1, z)) w.0) (owes_head c.args.job.now c.frame_of-f.result c.args.sent.now e c.requires.1),
      within-page refl (omega (arith, w.0.text.place, w.1, z)) w.0,
      omega (arith, as-long refl (omega (arith, w.0.text.place, w.1, z)) w.0, w.1),
    )

pub put_foot-requires : goal.put_foot-requires
put_foot-requires g c = record { fits = omega (arith, foot_length, length-replicate {A = ℕ} 16 0) }

pub send-requires-2 : goal.send-requires-2
send-requires-2 g c =
    let w = c.put_foot.ensures in
    let z = length-replicate {A = ℕ} 16 0 in (
      owed_as (on-page refl (omega (arith, w.0.text.place, foot_length, z)) w.0) (owes_foot _ _ c.in_ok-draw.ensures.wrote),
      within-page refl (omega (arith, w.0.text.place, foot_length, z)) w.0,
      omega (arith, as-long refl (omega (arith, w.0.text.place, foot_length, z)) w.0, foot_length),
    )

pub returns : goal.returns
returns g c =
    let w = c.put_foot.ensures in
    let z = length-replicate {A = ℕ} 16 0 in
    let h = c.put_head.ensures in
    let y = length-replicate {A = ℕ} 8192 0 in
    let l = as-long refl (omega (arith, w.0.text.place, foot_length, z)) w.0 in
    let out = g.W.Write.contents in
    let first = on-page refl (omega (arith, h.0.text.place, h.1, y)) h.0 in
    let last = on-page refl (omega (arith, w.0.text.place, foot_length, z)) w.0 in
    let head = subst (Appends (out c.args.output.now) (out c.send.new.output)) first c.in_ok-send.ensures.bytes in
    let foot = subst (Appends (out c.draw.new.output) (out c.send-2.new.output)) last in
    record {
      count = on_ok_weaker c.send-2.result (λ e. foot-last _ _ _ c.in_ok-draw.ensures.wrote (omega (arith, e, l))) c.send-2.ensures.count;
      bytes = on_ok_weaker c.send-2.result (λ k. all_written _ _ _ _ _ _ head c.in_ok-draw.ensures.bytes (foot k)) c.send-2.ensures.bytes;
    }
