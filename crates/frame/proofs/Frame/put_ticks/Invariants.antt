-- `Frame::put_ticks`, the loop's invariant: the numbers of the first i ticks are written.
use Rattle.text.specs.Page.{Room, Wrote}
use Rattle.frame.specs.Head as Head
use Rattle.frame.proofs.Frame.put_ticks.Given as goal

abbrev pub invariant-loop-i : goal.invariant-loop-i
invariant-loop-i l = record { room : Room l.initial.page (Head.ticks_text l.self 9); text : Wrote l.initial.page (Head.ticks_text l.self l.i) l.page }
