use Rattle.domain_layout.proofs.NewDomain.{reads_none}
use Rattle.domain_layout.proofs.new_domain.new_domain_has_no_fileset.Goals as goal

pub returns : goal.returns
returns c = reads_none
