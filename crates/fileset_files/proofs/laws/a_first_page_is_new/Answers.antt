use Rattle.fileset_files.proofs.NewDirectory.{first_new}
use Rattle.fileset_files.proofs.laws.a_first_page_is_new.Goals as goal

pub returns : goal.returns
returns c = first_new
