use Rattle.fileset_files.proofs.Calls.{size_changed}
use Rattle.fileset_files.proofs.map_laws.one_file_is_cut.Goals as goal

pub returns : goal.returns
returns c = λ fileset places space cells old new tag size states was cuts.
    size_changed fileset places space cells old states was tag new size (cuts was.chains was.together)
