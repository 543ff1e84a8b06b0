use Rattle.standing_laws.proofs.RootMade.{root_made}
use Rattle.standing_laws.proofs.beginning.a_fileset_begins.Goals as goal

pub returns : goal.returns
returns c = root_made
