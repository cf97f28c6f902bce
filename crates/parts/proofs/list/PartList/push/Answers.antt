-- `push`: the parts before stay, and one part more is read back.
use Rattle.std.proofs.Common.{refl, arith, rules}
use Rattle.parts.proofs.Stored.{pushed-at}
use Rattle.parts.proofs.list.PartList.push.Goals as goal

pub returns : goal.returns
returns c =
    pushed-at c.args.self.now c.requires.0 (search rules) (search rules) c.args.ps.now c.requires.3 c.from-a.result _ _ c.from-a.ensures
    (omega arith) c.copy.ensures _ refl refl refl
