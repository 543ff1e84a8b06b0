use Rattle.standing_laws.proofs.RestStands.{rest_stands}
use Rattle.standing_laws.proofs.rest.rest_stands_on.Goals as goal

pub returns : goal.returns
returns c = rest_stands
