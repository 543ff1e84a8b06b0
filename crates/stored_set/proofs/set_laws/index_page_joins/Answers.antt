use Rattle.stored_set.proofs.IndexInserted.{together_mid}
use Rattle.stored_set.proofs.set_laws.index_page_joins.Goals as goal

pub returns : goal.returns
returns c = λ fileset places space cells old new chains indexes files tag number page home index was low free inserts.
    together_mid fileset places space cells old new chains indexes files was tag number page home index low free inserts
