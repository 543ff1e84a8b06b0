use Rattle.directory_rows.proofs.Outside.{rows_decide_lem}
use Rattle.directory_rows.proofs.laws.rows_decide.Goals as goal

pub returns : goal.returns
returns c = rows_decide_lem
