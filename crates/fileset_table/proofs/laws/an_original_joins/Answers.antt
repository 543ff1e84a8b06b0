use Rattle.fileset_table.proofs.Joining.{original_joins}
use Rattle.fileset_table.proofs.laws.an_original_joins.Goals as goal

pub returns : goal.returns
returns c = λ t n e was free few allowed named. original_joins t n was free few e named allowed
