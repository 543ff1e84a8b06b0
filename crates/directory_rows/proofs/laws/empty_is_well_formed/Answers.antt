use Rattle.directory_rows.proofs.Outside.{empty_is_well_formed_lem}
use Rattle.directory_rows.proofs.laws.empty_is_well_formed.Goals as goal

pub returns : goal.returns
returns c = empty_is_well_formed_lem
