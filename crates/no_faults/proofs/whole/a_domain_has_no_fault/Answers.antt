use Rattle.no_faults.proofs.NoFault.{no_fault}
use Rattle.no_faults.proofs.whole.a_domain_has_no_fault.Goals as goal

pub returns : goal.returns
returns c = no_fault
