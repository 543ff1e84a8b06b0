use Rattle.fileset_files.specs.Changes.{says_attributes}
use Rattle.fileset_files.proofs.Calls.{first_changed}
use Rattle.fileset_files.proofs.FirstCells.{attributes_said}
use Rattle.fileset_files.specs.States.{described}
use Rattle.fileset_files.proofs.map_laws.one_file_is_described.Goals as goal

pub returns : goal.returns
returns c = λ fileset places space cells old new tag value states was now.
    first_changed fileset places space cells old states was tag new (says_attributes value) (described value) (λ pages first rest file. attributes_said pages first rest file value) (now was.chains was.together)
