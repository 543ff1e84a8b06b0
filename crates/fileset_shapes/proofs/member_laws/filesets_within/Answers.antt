use Rattle.fileset_shapes.proofs.FilesetsWithin.{filesets_within}
use Rattle.fileset_shapes.proofs.member_laws.filesets_within.Goals as goal

pub returns : goal.returns
returns c = filesets_within
