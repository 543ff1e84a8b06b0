use Rattle.no_faults.proofs.Stands.{stands}
use Rattle.no_faults.proofs.filesets.a_read_domain_stands.Goals as goal

pub returns : goal.returns
returns c = stands
