use Rattle.set_standing.proofs.OneFile.{changed_stands}
use Rattle.set_standing.proofs.names_files.a_fileset_of_one_changed_file_stands.Goals as goal

pub returns : goal.returns
returns c = changed_stands
