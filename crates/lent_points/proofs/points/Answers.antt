-- `points`: each pair of numbers goes to its place, and the places after them keep the origin.
use Rattle.std.proofs.Common.{◌≡◌, ◌++◌, ◌-◌, ◌/◌, ◌<◌, take, drop, length, replicate, length-set, subst, sym, ap, ◌∙◌, rules, arith}
use mathlib.Core.List.{List}
use lib.IntN.{ℤ, pos}
use lib.ListN.{get_or, length-append, length-replicate}
use lib.Seq.{take-length}
use Rattle.std.proofs.lemmas.List.{drop-replicate}
use Rattle.laws.proofs.Chunks.{pair_among}
use Rattle.laws.proofs.Table.{length_tab, more, tab_none}
use Rattle.vector.specs.Grid.{origin}
use Rattle.vector.specs.Size.{OnSheet}
use Rattle.call.specs.Lent.{point_in, points_in}
use Rattle.lent_points.proofs.Reading.{padded_at}
use Rattle.lent_points.proofs.points.Goals as goal

pub loop-i-init : goal.loop-i-init
loop-i-init c = (search rules, tab_none (point_in c.args.l.now))

pub loop-i-preserved : goal.loop-i-preserved
loop-i-preserved c =
    let o = c.loop-i in
    let l = c.args.l.now in
    let n = c.args.n in
    let h : o.i < n = omega (arith, c.loop-i-test.true, o.invariant.0) in
    let p = pair_among (pos 0) l (length l / 2) o.i (omega arith) n c.as_chunks.result.0.now c.as_chunks.ensures.front (omega (arith, c.requires.1)) h in
    let e = c.point.ensures ∙ ap (λ (p : List ℤ). point_in p 0) p in
    (length-set o.p-items o.i _ ∙ o.invariant.0, more (point_in l) o.p-items o.i _ (omega (arith, h, o.invariant.0)) o.invariant.1 e)

pub returns : goal.returns
returns c =
    let o = c.loop-i in
    let n = c.args.n in
    let ps = points_in c.args.l.now n in
    let k : o.i ≡ n = omega (arith, o.invariant.0, c.loop-i-test.false) in
    let read : o.p-items ≡ ps =
    sym (take-length o.p-items) ∙ (λ j. take ((o.invariant.0 ∙ sym k) j) o.p-items) ∙ o.invariant.1 ∙ ap (points_in c.args.l.now) k in
    let p : o.p-items ++ drop n (replicate 60 origin) ≡ ps ++ replicate (60 - n) origin = λ j. read j ++ drop-replicate n 60 origin j in (
      λ j. record { points = p j; count = n },
      record {
        count = c.requires.0;
        places = ap length p ∙ simp (length-append, length-replicate, length_tab) (omega (arith, c.requires.0));
        points = λ i. subst OnSheet (sym (ap (λ l. get_or l i origin) p ∙ padded_at ps (60 - n) origin i)) (c.requires.2 i);
      },
    )
