-- `divide_ring`: the promise of the divider call is the definition's step, and says that its row can be printed. The law is in proofs/Divided.
use Prim.Native.Nat.{◌*◌}
use lib.ListN.{take}
use Rattle.job.proofs.Divided.{divided}
use Rattle.job.proofs.divide_ring.Goals as goal

pub returns : goal.returns
returns c =
    let a = c.args in
    let d = c.divide-answer in
    divided a.s a.ring.now a.nodes.now a.rims.now (take (a.run * 2) a.chain.now) a.cells.now c.requires.1 _ _ _ _ d.ensures
    d.auto.cells _ _ c.listed.ensures c.from.ensures
