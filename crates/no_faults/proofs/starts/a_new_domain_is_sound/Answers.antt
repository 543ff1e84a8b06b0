use Rattle.no_faults.proofs.Started.{sound_new}
use Rattle.no_faults.proofs.starts.a_new_domain_is_sound.Goals as goal

pub returns : goal.returns
returns c = sound_new
