use Rattle.domain_attaching.proofs.Beside.{marked_with}
use Rattle.domain_attaching.proofs.standing.bits_are_kept_with_another_anchor.Goals as goal

pub returns : goal.returns
returns c = marked_with
