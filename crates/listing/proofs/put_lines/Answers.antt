-- `put_lines`: the lines of all nodes have room, and a turn writes one.
use mathlib.Core.Path.{refl}
use native.Mathlib.Omega.{arith}
use Rattle.text.proofs.Pages.{wrote_none, room-turn, wrote-turn}
use Rattle.listing.specs.Sheet.{line, lines}
use Rattle.listing.proofs.Texts.{lines_long}
use Rattle.listing.proofs.put_lines.Goals as goal

pub loop-i-init : goal.loop-i-init
unfolding lines
loop-i-init c = (omega arith, wrote_none _ (record { fits = omega arith }))

pub line-requires : goal.line-requires
unfolding lines
line-requires c =
    let s = c.args in
    let l = c.loop-i in
    let u = c.requires.0 in
    let k = c.loop-i-test.true in (
      omega (arith, u.few, k),
      omega (arith, u.room, k),
      (u.ranged l.i k).0,
      (u.ranged l.i k).1,
      room-turn (lines s.nodes.now) (line s.nodes.now) (λ i. refl) s.count
          (record { fits = omega (arith, c.requires.1, lines_long s.nodes.now s.count (omega (arith, u.few))) }) k l.invariant.1,
    )

pub loop-i-preserved : goal.loop-i-preserved
unfolding lines
loop-i-preserved c =
    let s = c.args in
    let l = c.loop-i in
    let u = c.requires.0 in (
      omega arith,
      wrote-turn (lines s.nodes.now) (line s.nodes.now) (λ i. refl) s.count
          (record { fits = omega (arith, c.requires.1, lines_long s.nodes.now s.count (omega (arith, u.few))) })
          c.loop-i-test.true l.invariant.1 c.line.ensures,
    )
