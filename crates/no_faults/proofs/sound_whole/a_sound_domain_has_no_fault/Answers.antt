use Rattle.no_faults.proofs.WholeDomain.{sound_faultless}
use Rattle.no_faults.proofs.sound_whole.a_sound_domain_has_no_fault.Goals as goal

pub returns : goal.returns
returns c = sound_faultless
