use Rattle.domain_attaching.proofs.Beside.{alone_with}
use Rattle.domain_attaching.proofs.standing.files_stand_alone_with_another_anchor.Goals as goal

pub returns : goal.returns
returns c = alone_with
