use Prim.Native.Nat.{ℕ, ◌-◌}
use mathlib.Core.Path.{◌≡◌, refl, sym, ap, ◌∙◌}
use mathlib.Core.List.{List}
use mathlib.Core.Bool.{true}
use lib.ListN.{replicate, length, take, drop, length-take, length-drop}
use native.Mathlib.Omega.{arith}
use Rattle.std.proofs.lemmas.Slice.{put_mid-paste}
use Rattle.std.proofs.lemmas.List.{length-replicate}
use Rattle.rim_marks.specs.Marking.{set_at}
use Rattle.rim_marks.proofs.Marking.{cleared-paste}
use Rattle.rim_marks.proofs.mark_rims.Goals as goal

pub returns : goal.returns
returns c =
    let a = c.args in
    let n = length a.round.now.middles.now in
    let d = a.v - a.u in
    let long : length (take d (drop a.u a.rims.now)) ≡ d = simp (length-take, length-drop) (omega (arith, c.requires.0, c.requires.1)) in
    let filled : c.fill.new.self ≡ replicate d 0 = c.fill.ensures.after (λ y e. e) ∙ ap (λ (n : ℕ). replicate n 0) long in
    let clear = put_mid-paste a.u d a.rims.now c.fill.new.self (replicate d 0) d filled refl (sym (length-replicate d 0))
    ∙ sym (cleared-paste a.rims.now a.u d (omega (arith, c.requires.0, c.requires.1))) in
    let same = a.round.now.as_many in
    c.set_rims-2.ensures
    ∙ ap (λ (rs : List ℕ). set_at rs a.round.now.middles.now a.sides.now n)
    (c.set_rims.ensures ∙ (λ i. set_at (clear i) a.round.now.corners.now (replicate 60 true) (same i)))
