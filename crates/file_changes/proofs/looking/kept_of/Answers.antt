use Rattle.file_changes.proofs.Seen.{keep_none}
use Rattle.file_changes.proofs.looking.kept_of.Goals as goal

pub returns-in-File-clause-none : goal.returns-in-File-clause-none
returns-in-File-clause-none g c = λ chains are. keep_none chains c.args.tag c.keep.result (c.keep.ensures chains are)
