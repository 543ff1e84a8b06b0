use Rattle.fileset_files.proofs.Calls.{removed, stands_alone}
use Rattle.fileset_files.proofs.map_laws.one_file_is_removed.Goals as goal

pub returns-clause-now : goal.returns-clause-now
returns-clause-now c = λ fileset places space cells old new tag states was now.
    removed fileset places space cells old states was tag new (now was.chains was.together)

pub returns-clause-alone : goal.returns-clause-alone
returns-clause-alone c = λ fileset places space cells old new tag at states state was removes is.
    stands_alone fileset places space cells old states was tag new at (removes was.chains was.together.files) state is
