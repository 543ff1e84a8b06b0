use Rattle.name_tables.proofs.Directories.{once_by}
use Rattle.name_tables.proofs.filesets.clone_of.Goals as goal

pub make_fileset-requires : goal.make_fileset-requires
make_fileset-requires c = once_by c.in_ok-directories.directories.items c.in_ok-directories.ensures
