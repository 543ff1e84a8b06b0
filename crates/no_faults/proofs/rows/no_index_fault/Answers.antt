use Rattle.no_faults.proofs.NoIndexes.{no_indexes}
use Rattle.no_faults.proofs.rows.no_index_fault.Goals as goal

pub returns : goal.returns
returns c = no_indexes
