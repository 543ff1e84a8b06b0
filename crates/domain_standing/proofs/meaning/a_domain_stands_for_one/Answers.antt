use Rattle.domain_standing.proofs.OneMeaning.{stands_for_one}
use Rattle.domain_standing.proofs.meaning.a_domain_stands_for_one.Goals as goal

pub returns : goal.returns
returns c = stands_for_one
