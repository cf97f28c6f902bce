-- `check`: each byte adds at most 255 times 508.
use Prim.Native.Nat.{◌+◌, ◌*◌, ◌≤◌, ◌<◌}
use mathlib.Core.Path.{◌≡◌, refl, sym, ap, ◌∙◌}
use native.Mathlib.Nat.{mul-le-mul}
use native.Mathlib.Numerals.{add-one}
use native.Mathlib.Omega.{arith}
use lib.ListN.{get_or}
use lib.Seq.{length-take-le}
use Rattle.std.proofs.lemmas.List.{get_or-take}
use Rattle.blocks.specs.Fields as Fields
use Rattle.blocks.proofs.check.Goals as goal

pub slice_bounds-byte-items-end : goal.slice_bounds-byte-items-end
slice_bounds-byte-items-end c = sym (length-take-le 508 c.args.bytes.now (omega arith))

pub loop-i-init : goal.loop-i-init
unfolding Fields.check_to
loop-i-init c = (omega arith, refl)

module _ (c : goal.After-from) where
  below : c.loop-i.i < 508
  below = omega (arith, length-take-le 508 c.args.bytes.now (omega arith))

  is-byte : c.from.result ≡ get_or c.args.bytes.now c.loop-i.i 0
  is-byte = c.from.ensures ∙ get_or-take 508 c.args.bytes.now c.loop-i.i 0 below

  small : c.from.result * (c.loop-i.i + 1) ≤ 129540
  small =
      mul-le-mul {n₁ = c.from.result} {m₁ = c.loop-i.i + 1} {n₂ = 255} {m₂ = 508} (omega (arith, is-byte, c.type_inv.bytes c.loop-i.i)) (omega (arith, below))

pub overflow_cast-sum : goal.overflow_cast-sum
overflow_cast-sum c = omega (arith, below c)

pub overflow_add-sum : goal.overflow_add-sum
overflow_add-sum c = omega (arith, below c)

pub overflow_mul-sum : goal.overflow_mul-sum
overflow_mul-sum c = omega (arith, small c)

pub overflow_add-sum-in-loop-i : goal.overflow_add-sum-in-loop-i
overflow_add-sum-in-loop-i c = omega (arith, small c, below c)

pub loop-i-preserved : goal.loop-i-preserved
unfolding Fields.check_to
loop-i-preserved c =
    let l = c.loop-i in
    let t = is-byte c in
    (omega (arith, small c), rw (l.invariant.1, t, add-one l.i))

pub returns : goal.returns
returns c =
    let l = c.loop-i in
    let e : l.i ≡ 508 = omega (arith, length-take-le 508 c.args.bytes.now (omega arith)) in
    l.invariant.1 ∙ ap (Fields.check_to c.args.bytes.now) e
