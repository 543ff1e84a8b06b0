use Rattle.domain_standing.proofs.OneSet.{a_set}
use Rattle.domain_standing.proofs.sets.an_original_is_a_set.Goals as goal

pub returns : goal.returns
returns c = a_set
