use Rattle.fileset_files.proofs.Calls.{page_changed}
use Rattle.fileset_files.proofs.map_laws.one_page_is_placed.Goals as goal

pub returns : goal.returns
returns c = λ fileset places space space_now cells cells_now old new tag page place version states was changes.
    page_changed fileset places space cells old states was tag page place version space_now cells_now new (changes was.chains was.together)
