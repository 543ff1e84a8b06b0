use Rattle.domain_layout.proofs.OwnedOnce.{owned_once}
use Rattle.domain_layout.proofs.owners.owned_once.Goals as goal

pub returns : goal.returns
returns c = owned_once
