-- `close`: laws in proofs/Given.
use Rattle.draw.proofs.Reaching.{ends_so}
use Rattle.draw.proofs.Given.{sendable_last, ends_step}
use Rattle.draw.proofs.close.Goals as goal

pub send-requires : goal.send-requires
send-requires g c = sendable_last c.requires.0 c.requires.1 c.finish.new.self c.finish.ensures.moves

pub returns-clause-ends : goal.returns-clause-ends
returns-clause-ends g c =
    let s = c.in_ok-send.ensures in
    ends_step c.finish.new.self _ (ends_so c.args.d.now c.finish.new.self c.finish.ensures.moves) _ _ s.count _ _ s.bytes c.end_of.result c.end_of.ensures
