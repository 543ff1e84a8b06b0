use Rattle.stored_set.proofs.TakenOut.{taken_out}
use Rattle.stored_set.proofs.set_laws.tag_is_taken_out.Goals as goal

pub returns : goal.returns
returns c = λ fileset places space cells old new chains indexes files tag was live beside together.
    taken_out fileset places space cells old new chains indexes files was tag live beside together
