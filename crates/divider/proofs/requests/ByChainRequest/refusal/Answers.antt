-- `refusal`: a ring and a chain that pass can be prepared.
use Rattle.divider.proofs.Preparing.{passing}
use Rattle.divider.proofs.requests.ByChainRequest.refusal.Goals as goal

pub returns-clause-passing : goal.returns-clause-passing
returns-clause-passing c z = passing _ _ _ _ z
