use Rattle.no_faults.proofs.NoCells.{no_cells}
use Rattle.no_faults.proofs.fault_tables.no_cells_fault.Goals as goal

pub returns : goal.returns
returns c = no_cells
