use Rattle.fileset_files.specs.Changes.{says_parent}
use Rattle.fileset_files.proofs.Calls.{first_changed}
use Rattle.fileset_files.proofs.FirstCells.{parent_said}
use Rattle.fileset_files.specs.States.{put_in}
use Rattle.fileset_files.proofs.map_laws.one_parent_is_set.Goals as goal

pub returns : goal.returns
returns c = λ fileset places space cells old new tag parent states was now.
    first_changed fileset places space cells old states was tag new (says_parent parent) (put_in parent) (λ pages first rest file. parent_said pages first rest file parent) (now was.chains was.together)
