use Rattle.fileset_files.proofs.ShownOnce.{show_once}
use Rattle.fileset_files.proofs.laws.files_show_once.Goals as goal

pub returns : goal.returns
returns c = show_once
