use Rattle.stored_set.proofs.EntriesSaid.{said}
use Rattle.stored_set.proofs.set_laws.index_entries_are_said.Goals as goal

pub returns : goal.returns
returns c = λ fileset places space cells old new chains indexes files tag index was begins changes together.
    said fileset places space cells old new chains indexes files was tag index begins changes together
