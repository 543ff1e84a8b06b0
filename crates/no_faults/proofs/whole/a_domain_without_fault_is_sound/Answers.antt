use Rattle.no_faults.proofs.Faultless.{faultless}
use Rattle.no_faults.proofs.whole.a_domain_without_fault_is_sound.Goals as goal

pub returns : goal.returns
returns c = faultless
