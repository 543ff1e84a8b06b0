use Rattle.stored_set.proofs.AnotherSet.{stands_again}
use Rattle.stored_set.proofs.stored_laws.another_set_is_shown_still.Goals as goal

pub returns : goal.returns
returns c = λ fileset places space space_now cells cells_now old new files was stay. record {
  chains = was.chains;
  indexes = was.indexes;
  stands = stands_again fileset places space space_now cells cells_now old new was.chains was.indexes files was.stands stay;
  whole = was.whole;
  bare = was.bare;
  low = was.low;
}
