use Rattle.standing_laws.proofs.HeldStill.{owned_still}
use Rattle.standing_laws.proofs.held.held_pages_stand_on.Goals as goal

pub returns : goal.returns
returns c = owned_still
