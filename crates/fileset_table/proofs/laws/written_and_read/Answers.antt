use Rattle.fileset_table.proofs.Unique.{read_again}
use Rattle.fileset_table.proofs.laws.written_and_read.Goals as goal

pub returns-clause-same : goal.returns-clause-same
returns-clause-same c = (read_again c.write.new.page c.args.table.now c.write.ensures.table c.read.result c.read.ensures).0

pub returns-clause-fault : goal.returns-clause-fault
returns-clause-fault c = (read_again c.write.new.page c.args.table.now c.write.ensures.table c.read.result c.read.ensures).1
