use Rattle.stored_set.proofs.IndexPut.{put}
use Rattle.stored_set.proofs.set_laws.index_page_is_put.Goals as goal

pub returns : goal.returns
returns c = λ fileset places space cells old new chains indexes files tag number page was directory puts.
    put fileset places space cells old new chains indexes files was tag number page puts directory
