use Rattle.stored_set.proofs.Owned.{set}
use Rattle.stored_set.proofs.set_laws.attributes_are_set.Goals as goal

pub returns : goal.returns
returns c = λ fileset places space cells old new chains indexes files tag value was can changes together.
    set fileset places space cells old new chains indexes files was tag value can changes together
