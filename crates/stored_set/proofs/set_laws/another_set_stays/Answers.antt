use Rattle.stored_set.proofs.AnotherSet.{stands_again}
use Rattle.stored_set.proofs.set_laws.another_set_stays.Goals as goal

pub returns : goal.returns
returns c = λ fileset places space space_now cells cells_now old new chains indexes files was stay.
    stands_again fileset places space space_now cells cells_now old new chains indexes files was stay
