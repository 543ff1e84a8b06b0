use Rattle.fileset_table.proofs.Joining.{clone_joins}
use Rattle.fileset_table.proofs.laws.a_clone_joins.Goals as goal

pub returns : goal.returns
returns c = λ t n o m e was free few allowed named original none. clone_joins t n was free few e named o m allowed original none
