-- `used_nodes`: block after block, and then the nodes that are left.
use Prim.Native.Nat.{ℕ, ◌+◌, ◌*◌, ◌/◌, ◌≤◌, ◌<◌}
use native.Mathlib.Omega.{arith}
use mathlib.Core.Path.{◌≡◌, refl, ap, ◌∙◌, subst}
use mathlib.Core.Bool.{false, ◌||◌}
use mathlib.Core.List.{List, []}
use lib.Ieee.{Float, nan}
use lib.ListN.{length, get_or, take, drop}
use lib.Seq.{get_or-take, length-take-le}
use Rattle.std.specs.List.{fold}
use Rattle.std.specs.Simd.{first_chunks}
use Rattle.std.proofs.lemmas.Simd.{length-chunk}
use Rattle.laws.proofs.Chunks.{chunk_is, chunk_at}
use Rattle.survey.specs.Survey.{Gathered}
use Rattle.survey.proofs.Gathering as gathering
use Rattle.nodes.proofs.Passes.{off_sheet, block}
use Rattle.survey.proofs.Tested as tested
use Rattle.survey.proofs.used_nodes.Goals as goal
use Rattle.survey.proofs.used_nodes.Invariants.{State}

-- block b of the numbers of the first nodes
module _ (l : List Float) (old : ℕ) (n : old * 2 ≤ length l) (bs : List (List Float))
    (e : bs ≡ first_chunks 16 (length (take (old * 2) l) / 16) (take (old * 2) l))
    (f : length bs ≡ length (take (old * 2) l) / 16) (b : ℕ) (h : b < length bs) where
  abbrev used : List Float
  used = take (old * 2) l

  long : length used ≡ old * 2
  long = length-take-le (old * 2) l n

  low : b * 16 + 16 ≤ old * 2
  low = omega (arith, h, f, long)

  is : get_or bs b [] ≡ take 16 (drop (b * 16) used)
  is = ap (λ (cs : List (List Float)). get_or cs b []) e ∙ chunk_is 16 (length used / 16) b used (omega (arith, h, f))

  of_16 : length (get_or bs b []) ≡ 16
  of_16 = ap length is ∙ length-chunk (b * 16) 16 used (omega (arith, low, long))

  number : (j : ℕ) → j < 16 → get_or (get_or bs b []) j nan ≡ get_or l (b * 8 * 2 + j) nan
  number j k =
      let z : b * 16 + j ≡ b * 8 * 2 + j = omega arith in
      ap (λ (cs : List (List Float)). get_or (get_or cs b []) j nan) e ∙ chunk_at 16 (length used / 16) b j used nan (omega (arith, h, f)) k
      ∙ get_or-take (old * 2) l (b * 16 + j) nan (omega (arith, low, k)) ∙ ap (λ (i : ℕ). get_or l i nan) z

pub loop-b-init : goal.loop-b-init
loop-b-init c = record { tested = refl; gathered = gathering.start _ _ _ _; long = c.requires.2; long_x = c.requires.3 }

pub any_of_16_out-out-requires : goal.any_of_16_out-out-requires
any_of_16_out-out-requires c =
    let e = c.as_chunks.ensures in
    of_16 c.args.nodes.now c.args.old c.requires.0 c.as_chunks.result.0.now e.front e.front_len c.loop-b.b c.loop-b-test.true

pub collect_block-count-requires : goal.collect_block-count-requires
collect_block-count-requires c =
    let a = c.args in
    let e = c.as_chunks.ensures in
    let i = c.loop-b.invariant in
    let k = low a.nodes.now a.old c.requires.0 c.as_chunks.result.0.now e.front e.front_len c.loop-b.b c.loop-b-test.true in (
      omega (arith, k, c.requires.0),
      omega (arith, k, c.requires.1),
      of_16 a.nodes.now a.old c.requires.0 c.as_chunks.result.0.now e.front e.front_len c.loop-b.b c.loop-b-test.true,
      number a.nodes.now a.old c.requires.0 c.as_chunks.result.0.now e.front e.front_len c.loop-b.b c.loop-b-test.true,
      i.long,
      i.long_x,
    )

pub loop-b-preserved : goal.loop-b-preserved
loop-b-preserved c =
    let a = c.args in
    let e = c.as_chunks.ensures in
    let q = c.loop-b in
    let i = q.invariant in
    let k = c.collect_block-count in
    let z : q.b * 8 + 8 ≡ (q.b + 1) * 8 = omega arith in
    record {
      tested =
          block (take (a.old * 2) a.nodes.now) q.b q.out c.any_of_16_out-out.result i.tested (
          c.any_of_16_out-out.ensures
          ∙ ap (fold (λ b x. b || off_sheet x) false)
          (is a.nodes.now a.old c.requires.0 c.as_chunks.result.0.now e.front e.front_len q.b c.loop-b-test.true)
          );
      gathered = subst (λ (n : ℕ). Gathered a.nodes.now a.w n a.numbers.now a.xs.now k.new.numbers k.new.xs k.result) z
          (k.ensures a.numbers.now a.xs.now c.requires.2 c.requires.3 i.gathered);
      long = k.auto.numbers ∙ i.long;
      long_x = k.auto.xs ∙ i.long_x;
    }

pub returns : goal.returns
returns c =
    let a = c.args in
    let i = c.loop-b.invariant in
    let n : c.loop-b.b ≡ length c.as_chunks.result.0.now = omega (arith, c.loop-b-test.false, c.loop-b.auto.b-end) in
    let s = subst (λ b. State a.nodes.now a.old a.w a.numbers.now a.xs.now c.loop-b.numbers c.loop-b.xs c.loop-b.count c.loop-b.out b) n i in
    let g = c.collect_more.ensures a.numbers.now a.xs.now c.requires.2 c.requires.3 s.gathered in
    let e = c.as_chunks.ensures in
    let d = e.back ∙ ap (λ (k : ℕ). drop k (take (a.old * 2) a.nodes.now)) (omega (arith, e.front_len)) in
    let h = tested.told a.nodes.now (a.old * 2) _ c.loop-b.out c.any_out.result c.requires.0 s.tested
    (c.any_out.ensures ∙ ap (fold (λ b x. b || off_sheet x) false) d) in
    (λ j. record { on_sheet = h j; near = record { ring_box = a.w; old = a.old; count = g.count j } }, g.are, g.are_x)
