use Rattle.domain_standing.proofs.NewDomain.{new_stands}
use Rattle.domain_standing.proofs.making.a_new_domain_stands.Goals as goal

pub returns : goal.returns
returns c = new_stands
