use Rattle.no_faults.proofs.NoTags.{no_tags}
use Rattle.no_faults.proofs.fault_tables.no_tags_fault.Goals as goal

pub returns : goal.returns
returns c = no_tags
