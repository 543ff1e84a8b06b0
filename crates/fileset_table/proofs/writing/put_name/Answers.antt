use Rattle.fileset_table.proofs.Written.{name_written}
use Rattle.fileset_table.proofs.writing.put_name.Goals as goal

pub returns : goal.returns
returns c = name_written c.args.state c.args.name.now c.copy_from_slice.new.self c.args.out.now c.requires.zeros c.requires.short c.copy_from_slice.ensures.after
