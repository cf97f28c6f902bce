-- `Frame::put_ticks`: each turn writes both labels of a tick.
use mathlib.Core.Path.{refl}
use native.Mathlib.Omega.{arith}
use Rattle.text.proofs.Pages.{wrote_none, room-one, room-two, wrote-two, room-turn, wrote-turn}
use Rattle.frame.specs.Head as Head
use Rattle.frame.proofs.Frame.put_ticks.Goals as goal

pub loop-i-init : goal.loop-i-init
unfolding Head.ticks_text
loop-i-init c = record { room = c.requires; text = wrote_none c.args.page.now (record { fits = omega (arith, c.requires.fits) }) }

pub put_below-requires : goal.put_below-requires
unfolding Head.ticks_text Head.tick_text
put_below-requires c =
    let f = c.args.self in
    let l = c.loop-i in
    let r = room-turn (Head.ticks_text f) (Head.tick_text f) (λ i. refl) 9 l.invariant.room c.loop-i-test.true l.invariant.text in
    (omega arith, room-one (Head.below_text f l.i) (Head.beside_text f l.i) r)

pub put_beside-requires : goal.put_beside-requires
unfolding Head.ticks_text Head.tick_text
put_beside-requires c =
    let f = c.args.self in
    let l = c.loop-i in
    let r = room-turn (Head.ticks_text f) (Head.tick_text f) (λ i. refl) 9 l.invariant.room c.loop-i-test.true l.invariant.text in
    (omega arith, room-two (Head.below_text f l.i) (Head.beside_text f l.i) r c.put_below.ensures)

pub loop-i-preserved : goal.loop-i-preserved
unfolding Head.ticks_text Head.tick_text
loop-i-preserved c =
    let f = c.args.self in
    let l = c.loop-i in
    let r = room-turn (Head.ticks_text f) (Head.tick_text f) (λ i. refl) 9 l.invariant.room c.loop-i-test.true l.invariant.text in
    record {
      room = l.invariant.room;
      text = wrote-turn (Head.ticks_text f) (Head.tick_text f) (λ i. refl) 9 l.invariant.room c.loop-i-test.true l.invariant.text
          (wrote-two (Head.below_text f l.i) (Head.beside_text f l.i) r c.put_below.ensures c.put_beside.ensures);
    }
