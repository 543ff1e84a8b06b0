use Rattle.domain_attaching.proofs.Beside.{parents_with}
use Rattle.domain_attaching.proofs.standing.parents_stay_with_another_anchor.Goals as goal

pub returns : goal.returns
returns c = parents_with
