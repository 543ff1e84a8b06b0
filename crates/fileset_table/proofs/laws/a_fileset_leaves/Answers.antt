use Rattle.fileset_table.proofs.Leaving.{leaves}
use Rattle.fileset_table.proofs.laws.a_fileset_leaves.Goals as goal

pub returns : goal.returns
returns c = leaves
