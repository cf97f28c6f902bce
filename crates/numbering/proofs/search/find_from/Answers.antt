use Rattle.std.proofs.Common.{◌∙◌, ◌≡◌, sym, arith, refl, ℕ, suc, ◌+◌, ◌≤◌, ◌<◌}
use native.Mathlib.Decide.{dec_le}
use Rattle.numbering.proofs.Found.{block_hit, block_pass, ends}
use Rattle.numbering.proofs.search.find_from.Goals as goal

-- the last block ends with the places
last : (n s t : ℕ) → s < t → t ≤ n → n ≤ s + 16 → (t < n → t ≡ s + 16) → t ≡ n
last n s t a b d e = go (dec_le (suc t) n)
  where
    go : Dec (t < n) → t ≡ n
    go (yes y) = omega (arith, e y)
    go (no y) = omega arith

pub loop-start-init : goal.loop-start-init
loop-start-init g c = (omega arith, refl)

pub returns-in-Some : goal.returns-in-Some
returns-in-Some g c =
    let e = c.block_end-to.ensures in
    rw (← c.len-count.ensures) (block_hit _ _ _ _ _ (omega (arith, e.0)) e.1 c.loop-start.invariant.1 c.in-Some.j (sym c.in-Some.is ∙ c.find_block.ensures))

pub loop-start-preserved : goal.loop-start-preserved
loop-start-preserved g c =
    let e = c.block_end-to.ensures in
    let t : c.block_end-to.result ≡ c.loop-start.start + 16 = e.4 (omega (arith, e.2)) in
    (omega arith, rw t at (block_pass _ _ _ _ _ (omega (arith, e.0)) e.1 c.loop-start.invariant.1 (sym c.in_default.is ∙ c.find_block.ensures)))

pub returns-in_default : goal.returns-in_default
returns-in_default g c =
    let e = c.block_end-to.ensures in
    let t = last c.len-count.result c.loop-start.start c.block_end-to.result e.0 e.1 (omega arith) e.4 in
    rw (← c.len-count.ensures)
    (ends _ _ _ _ (block_pass _ _ _ _ _ (omega (arith, e.0)) e.1 c.loop-start.invariant.1 (sym c.in_default.is ∙ c.find_block.ensures)) t)

pub returns-else-count-from-lt16 : goal.returns-else-count-from-lt16
returns-else-count-from-lt16 g c = rw (← c.len-count.ensures) (ends _ _ _ _ c.loop-start.invariant.1 (omega (arith, c.loop-start.invariant.0)))
