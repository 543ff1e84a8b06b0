use Rattle.standing_laws.proofs.TablesStand.{tables_stand}
use Rattle.standing_laws.proofs.tables.tables_stand_on.Goals as goal

pub returns : goal.returns
returns c = tables_stand
