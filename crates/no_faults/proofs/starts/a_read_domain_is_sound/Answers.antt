use Rattle.no_faults.proofs.Started.{sound_read}
use Rattle.no_faults.proofs.starts.a_read_domain_is_sound.Goals as goal

pub returns : goal.returns
returns c = sound_read
