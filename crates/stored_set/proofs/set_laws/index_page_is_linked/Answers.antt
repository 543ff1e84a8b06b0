use Rattle.stored_set.proofs.SaidFirst.{linked_in}
use Rattle.stored_set.proofs.set_laws.index_page_is_linked.Goals as goal

pub returns : goal.returns
returns c = λ fileset places space cells old said new chains indexes files tag number page home index was directory low free first together inserts.
    linked_in fileset places space cells old said new chains indexes files was tag number page home index low free first inserts together directory
