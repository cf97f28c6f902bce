-- `all_on_sheet`: block after block, and then the numbers that are left.
use Prim.Native.Nat.{ℕ, ◌+◌, ◌*◌, ◌/◌, ◌≤◌, ◌<◌}
use native.Mathlib.Omega.{arith}
use mathlib.Core.Path.{◌≡◌, sym, ap, ◌∙◌}
use mathlib.Core.Bool.{Bool, false, ◌||◌}
use mathlib.Core.List.{List, []}
use lib.Ieee.{Float}
use lib.ListN.{length, get_or, take, drop}
use Rattle.std.specs.List.{fold, list_any}
use Rattle.std.specs.Simd.{first_chunks}
use Rattle.std.proofs.lemmas.Simd.{length-chunk}
use Rattle.laws.proofs.Chunks.{chunk_is}
use Rattle.nodes.proofs.Passes.{off_sheet, block, whole, one_out}
use Rattle.nodes.proofs.on_sheet.all_on_sheet.Goals as goal

-- block b of the numbers
module _ (l : List Float) (bs : List (List Float)) (e : bs ≡ first_chunks 16 (length l / 16) l) (f : length bs ≡ length l / 16) (b : ℕ) (h : b < length bs) where
  low : b * 16 + 16 ≤ length l
  low = omega (arith, h, f)

  is : get_or bs b [] ≡ take 16 (drop (b * 16) l)
  is = ap (λ (cs : List (List Float)). get_or cs b []) e ∙ chunk_is 16 (length l / 16) b l (omega (arith, h, f))

  of_16 : length (get_or bs b []) ≡ 16
  of_16 = ap length is ∙ length-chunk (b * 16) 16 l low

  -- after it
  so_far : (c : Bool) → false ≡ list_any off_sheet (take (b * 16) l) → c ≡ fold (λ b x. b || off_sheet x) false (get_or bs b [])
      → c ≡ list_any off_sheet (take ((b + 1) * 16) l)
  so_far c i o = block l b false c i (o ∙ ap (fold (λ b x. b || off_sheet x) false) is)

pub any_of_16_out-requires : goal.any_of_16_out-requires
any_of_16_out-requires c =
    let e = c.as_chunks.ensures in of_16 c.args.l.now c.as_chunks.result.0.now e.front e.front_len c.loop-block.block-index c.loop-block-test.true

pub returns-then-any_of_16_out : goal.returns-then-any_of_16_out
returns-then-any_of_16_out c =
    let e = c.as_chunks.ensures in
    let l = c.args.l.now in
    one_out l ((c.loop-block.block-index + 1) * 16)
    (sym (so_far l c.as_chunks.result.0.now e.front e.front_len c.loop-block.block-index c.loop-block-test.true c.any_of_16_out.result
    c.loop-block.invariant c.any_of_16_out.ensures)
    ∙ c.if-any_of_16_out.true)

pub loop-block-preserved : goal.loop-block-preserved
loop-block-preserved c =
    let e = c.as_chunks.ensures in
    sym c.if-any_of_16_out.false
    ∙ so_far c.args.l.now c.as_chunks.result.0.now e.front e.front_len c.loop-block.block-index c.loop-block-test.true c.any_of_16_out.result
    c.loop-block.invariant c.any_of_16_out.ensures

pub returns : goal.returns
returns c =
    let e = c.as_chunks.ensures in
    let l = c.args.l.now in
    let n : c.loop-block.block-index ≡ length l / 16 = omega (arith, c.loop-block-test.false, c.loop-block.auto.block-index-end, e.front_len) in
    whole l (c.loop-block.block-index * 16) false c.any_out.result c.loop-block.invariant
    (c.any_out.ensures ∙ ap (fold (λ b x. b || off_sheet x) false) (e.back ∙ ap (λ (k : ℕ). drop k l) (omega (arith, n))))
