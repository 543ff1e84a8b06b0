use Rattle.fileset_files.proofs.NewDirectory.{new_names_none}
use Rattle.fileset_files.proofs.laws.a_new_directory_names_none.Goals as goal

pub returns : goal.returns
returns c = new_names_none
