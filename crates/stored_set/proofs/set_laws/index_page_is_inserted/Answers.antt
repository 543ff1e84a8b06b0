use Rattle.stored_set.proofs.IndexInserted.{inserted}
use Rattle.stored_set.proofs.set_laws.index_page_is_inserted.Goals as goal

pub returns : goal.returns
returns c = λ fileset places space cells old between new chains indexes files tag number page home index was directory low free inserts changes together.
    inserted fileset places space cells old between chains indexes files was tag number page home index low free inserts new changes together directory
