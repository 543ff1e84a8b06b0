use Rattle.fileset_table.proofs.Changing.{changes}
use Rattle.fileset_table.proofs.laws.a_fileset_changes.Goals as goal

pub returns : goal.returns
returns c = changes
