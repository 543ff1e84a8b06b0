use Rattle.domain_layout.proofs.NewDomain.{no_fault}
use Rattle.domain_layout.proofs.new_domain.new_domain_has_no_fault.Goals as goal

pub returns : goal.returns
returns c = no_fault
