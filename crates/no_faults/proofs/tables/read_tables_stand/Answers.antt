use Rattle.no_faults.proofs.Beside.{tables_stand}
use Rattle.no_faults.proofs.tables.read_tables_stand.Goals as goal

pub returns : goal.returns
returns c = tables_stand
