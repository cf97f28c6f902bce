-- `write_told`: the text in front of the list is that of what was told.
use Prim.Native.Nat.{ℕ}
use mathlib.Core.Path.{sym, ap, subst}
use mathlib.Core.List.{List}
use lib.ListN.{length}
use Rattle.std.specs.Prelude.{OnOk}
use Rattle.std.specs.Io.KnownBytes.{Appends}
use Rattle.told.proofs.Rows.{in_front}
use Rattle.telling.specs.Reached.{Owed}
use native.Mathlib.Omega.{arith}
use Rattle.telling.proofs.write_told.Goals as goal

pub send-requires : goal.send-requires
send-requires g c =
    let p = c.print-n in
    let e = in_front _ _ _ _ p.ensures in
    (subst (λ (t : List ℕ). Owed c.args.sent.now t) (sym e) c.requires.0, omega (arith, p.ensures.bytes, p.ensures.room, ap length e))

pub returns-clause-written : goal.returns-clause-written
returns-clause-written g c =
    let same = in_front _ _ _ _ c.print-n.ensures in
    subst (λ (t : List ℕ). OnOk c.send.result (Appends (g.W.Write.contents c.args.output.now) (g.W.Write.contents c.send.new.output) t))
    same c.send.ensures.written
