use Rattle.fileset_files.proofs.Calls.{made, made_fresh}
use Rattle.fileset_files.proofs.map_laws.one_file_is_made.Goals as goal

pub returns-clause-fresh : goal.returns-clause-fresh
returns-clause-fresh c = λ fileset places places_now space space_now cells cells_now old new tag version what states was creates.
    made_fresh fileset places space cells old states was tag places_now version what space_now cells_now new (creates was.chains was.together)

pub returns-clause-now : goal.returns-clause-now
returns-clause-now c = λ fileset places places_now space space_now cells cells_now old new tag version what states was creates.
    made fileset places space cells old states was tag places_now version what space_now cells_now new (creates was.chains was.together)
