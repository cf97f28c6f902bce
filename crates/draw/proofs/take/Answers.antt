-- `take`: what is written is what the step completed.
use Rattle.draw.proofs.Reaching.{sendable}
use Rattle.draw.proofs.take.Goals as goal

pub send-requires : goal.send-requires
send-requires g c = sendable c.requires.0 _ _ c.requires.1 c.feed.ensures
