use Prim.Native.Nat.{◌+◌, ◌*◌}
use mathlib.Core.Path.{◌≡◌, refl, ap, ◌∙◌}
use mathlib.Core.List.{◌++◌}
use lib.ListN.{length, drop}
use Rattle.block_writer.proofs.Words.{turn, length_over}
use Rattle.blocks.specs.Writing.{field, words_to, body_bytes}
use native.Mathlib.Omega.{arith}
use Rattle.block_writer.proofs.write_body.Goals as goal

pub loop-w-init : goal.loop-w-init
unfolding words_to
loop-w-init c = (refl, refl)

pub loop-w-preserved : goal.loop-w-preserved
loop-w-preserved c =
    let l = c.loop-w in
    let a = c.args in
    let f = field a.points.now a.size a.number in
    let e = turn f a.out.now l.out _ l.w _ (omega arith) l.invariant.1 c.field.ensures c.put_word.ensures in
    (ap length e ∙ length_over f a.out.now (l.w + 1) (omega arith), e)

pub returns : goal.returns
unfolding body_bytes
returns c =
    let l = c.loop-w in
    let a = c.args in
    let e : l.w ≡ 127 = omega arith in
    l.invariant.1 ∙ (λ j. words_to (field a.points.now a.size a.number) (e j) ++ drop (e j * 4) a.out.now)
