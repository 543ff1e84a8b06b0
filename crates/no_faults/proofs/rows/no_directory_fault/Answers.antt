use Rattle.no_faults.proofs.NoRows.{no_rows}
use Rattle.no_faults.proofs.rows.no_directory_fault.Goals as goal

pub returns : goal.returns
returns c = no_rows
