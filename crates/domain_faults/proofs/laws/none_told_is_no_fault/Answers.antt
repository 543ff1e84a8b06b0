use Rattle.domain_faults.proofs.ToldFaults.{none_told}
use Rattle.domain_faults.proofs.laws.none_told_is_no_fault.Goals as goal

pub returns : goal.returns
returns c = none_told
