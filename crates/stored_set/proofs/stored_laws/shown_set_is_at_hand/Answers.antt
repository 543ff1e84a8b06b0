use Rattle.stored_set.proofs.StableSet.{has_set}
use Rattle.stored_set.proofs.stored_laws.shown_set_is_at_hand.Goals as goal

pub returns : goal.returns
returns c = λ fileset places space cells pages known. has_set fileset places space cells pages known
