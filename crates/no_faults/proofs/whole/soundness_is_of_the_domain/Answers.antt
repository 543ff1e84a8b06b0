use Rattle.no_faults.proofs.OneSound.{one_sound}
use Rattle.no_faults.proofs.whole.soundness_is_of_the_domain.Goals as goal

pub returns : goal.returns
returns c = one_sound
