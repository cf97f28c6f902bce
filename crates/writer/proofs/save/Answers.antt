-- `save`: `passed` says what the test of the refusal has shown of the places after it.
use Prim.Native.Nat.{◌≤◌}
use mathlib.Core.Path.{◌≡◌, sym}
use native.Mathlib.Omega.{arith}
use lib.ListN.{length}
use borrow.Author.Rules.{rules}
use Rattle.std.specs.Prelude.{Ok}
use Rattle.writer.specs.Write as Write
use Rattle.writer.proofs.Passed.{room, low-number, few-ring, few-chain, agrees, left_refused, as_long, part-long, both}
use Rattle.writer.proofs.save.Goals as goal
use Rattle.writer.proofs.save.Goals.{After-write_block, In_ok-test}

-- the call is not refused
passed : (k : In_ok-test) → let a = k.args in
    Write.refusal a.ring.now a.chain.now a.size a.number (length a.out.now) ≡ 0
passed k = let a = k.args in sym (agrees a.ring.now a.chain.now a.size a.number (length a.out.now) (Ok _) k.in_ok-test.ensures)

space : (k : In_ok-test) → 1024 ≤ length k.args.out.now
space k = let a = k.args in room a.ring.now a.chain.now a.size a.number (length a.out.now) (passed k)

low : (k : In_ok-test) → k.args.number ≤ 65534
low k = let a = k.args in low-number a.ring.now a.chain.now a.size a.number (length a.out.now) (passed k)

-- after the ring's block the destination is as long as before
long : (y : After-write_block) → 1024 ≤ length y.write_block.new.out
long y =
    let a = y.args in
    let p = sym (agrees a.ring.now a.chain.now a.size a.number (length a.out.now) (Ok _) y.in_ok-test.ensures) in
    let e = as_long a.ring.now a.chain.now a.size a.number a.out.now p y.write_block.new.out y.write_block.ensures in
    omega (arith, e, room a.ring.now a.chain.now a.size a.number (length a.out.now) p)

pub returns-in_err-test-clause-bytes : goal.returns-in_err-test-clause-bytes
returns-in_err-test-clause-bytes c =
    let a = c.args in
    left_refused a.ring.now a.chain.now a.size a.number a.out.now _ c.in_err-test.ensures

pub write_block-requires : goal.write_block-requires
write_block-requires c =
    let a = c.args in
    let h : 512 ≤ length a.out.now = omega (arith, space (goal.at.write_block-requires c).In_ok-test) in (
      h,
      few-ring a.ring.now a.chain.now a.size a.number (length a.out.now) (passed (goal.at.write_block-requires c).In_ok-test),
      omega (arith, low (goal.at.write_block-requires c).In_ok-test),
    )

pub slice_bounds-write_block-count : goal.slice_bounds-write_block-count
slice_bounds-write_block-count c = omega (arith, long (goal.at.slice_bounds-write_block-count c).After-write_block)

pub slice_bounds-write_block-start : goal.slice_bounds-write_block-start
slice_bounds-write_block-start c = let h = long (goal.at.slice_bounds-write_block-start c).After-write_block in search rules

pub overflow_add-number : goal.overflow_add-number
overflow_add-number c = omega (arith, low (goal.at.overflow_add-number c).In_ok-test)

pub write_block-requires-2 : goal.write_block-requires-2
write_block-requires-2 c =
    let a = c.args in (
      part-long c.write_block.new.out (long (goal.at.write_block-requires-2 c).After-write_block),
      few-chain a.ring.now a.chain.now a.size a.number (length a.out.now) (passed (goal.at.write_block-requires-2 c).In_ok-test),
      omega (arith, low (goal.at.write_block-requires-2 c).In_ok-test),
    )

pub returns-clause-bytes : goal.returns-clause-bytes
returns-clause-bytes c =
    let a = c.args in
    both a.ring.now a.chain.now a.size a.number a.out.now (passed (goal.at.returns-clause-bytes c).In_ok-test) c.write_block.new.out _
    c.write_block.ensures c.write_block-2.ensures
