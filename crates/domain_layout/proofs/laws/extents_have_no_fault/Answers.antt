use Rattle.domain_layout.proofs.NoTables.{none_of_extents}
use Rattle.domain_layout.proofs.laws.extents_have_no_fault.Goals as goal

pub returns : goal.returns
returns c = none_of_extents
