use Rattle.domain_attaching.proofs.Beside.{sound_with}
use Rattle.domain_attaching.proofs.standing.soundness_stays_with_another_anchor.Goals as goal

pub returns : goal.returns
returns c = sound_with
