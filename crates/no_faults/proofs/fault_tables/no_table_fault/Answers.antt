use Rattle.no_faults.proofs.NoTable.{no_table}
use Rattle.no_faults.proofs.fault_tables.no_table_fault.Goals as goal

pub returns : goal.returns
returns c = no_table
