use Rattle.fileset_table.proofs.Unique.{no_clone}
use Rattle.fileset_table.proofs.reading.read_clone.Goals as goal

pub returns-in_default : goal.returns-in_default
returns-in_default c = no_clone c.args.bytes.now c.requires.state c.in_default.ensures.none
