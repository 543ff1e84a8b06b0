use Rattle.release_laws.proofs.RestGo.{rest_goes}
use Rattle.release_laws.proofs.rest.rest_stands_on_over_steps.Goals as goal

pub returns : goal.returns
returns c = rest_goes
