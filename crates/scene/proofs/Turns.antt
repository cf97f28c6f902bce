-- Three texts written one after the other, as the check looks for them.
use Rattle.text.proofs.Pages.{room-first, room-second, room-third, wrote-three}

pub ruleset in_turn = (room-first, room-second, room-third, wrote-three)
