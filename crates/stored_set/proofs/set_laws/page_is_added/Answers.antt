use Rattle.stored_set.proofs.PageAdded.{added}
use Rattle.stored_set.proofs.set_laws.page_is_added.Goals as goal

pub returns : goal.returns
returns c = λ fileset prefer places space space_now cells cells_now old new chains indexes files tag number home page version chain was directory last is changes takes elsewhere.
    added fileset prefer places space space_now cells cells_now old new chains indexes files was tag number home page version chain is changes takes elsewhere directory last
