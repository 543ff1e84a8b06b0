use Rattle.domain_layout.proofs.NoTables.{none_of_tables}
use Rattle.domain_layout.proofs.laws.tables_have_no_fault.Goals as goal

pub returns : goal.returns
returns c = none_of_tables
