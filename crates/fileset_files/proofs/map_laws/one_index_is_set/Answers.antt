use Rattle.fileset_files.specs.Index.{says_index}
use Rattle.fileset_files.proofs.Calls.{first_changed}
use Rattle.fileset_files.proofs.FirstCells.{index_said}
use Rattle.fileset_files.specs.States.{indexed}
use Rattle.fileset_files.proofs.map_laws.one_index_is_set.Goals as goal

pub returns : goal.returns
returns c = λ fileset places space cells old new tag index states was now.
    first_changed fileset places space cells old states was tag new (says_index index) (indexed index) (λ pages first rest file. index_said pages first rest file index) (now was.chains was.together)
