use Rattle.release_laws.proofs.HeldGo.{owned_goes}
use Rattle.release_laws.proofs.held.held_pages_stand_on_over_steps.Goals as goal

pub returns : goal.returns
returns c = owned_goes
