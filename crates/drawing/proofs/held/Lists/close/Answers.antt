-- `close`: laws in proofs/Closing.
use Rattle.drawing.proofs.Closing.{closes_passed}
use mathlib.Core.Path.{refl}
use Rattle.drawing.proofs.held.Lists.close.Goals as goal

pub returns-in-Ok : goal.returns-in-Ok
returns-in-Ok c =
    let a = c.args in
    record {
      does =
          closes_passed a.o a.self.now.ring a.self.now.chain a.self.now.out c.requires a.self.now.out_long c.in_default.not-Closed
          c.in-Ok.field-0 c.in-Ok.ensures.answer c.save.new.out c.in-Ok.ensures.bytes;
      points = (refl, refl);
    }
