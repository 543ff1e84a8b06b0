use Rattle.directory_rows.proofs.Outside.{others_stay_lem}
use Rattle.directory_rows.proofs.laws.others_stay.Goals as goal

pub returns : goal.returns
returns c = others_stay_lem
