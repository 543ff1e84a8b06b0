use Rattle.release_laws.proofs.TablesGo.{tables_go}
use Rattle.release_laws.proofs.tables.tables_stand_on_over_steps.Goals as goal

pub returns : goal.returns
returns c = tables_go
