use Rattle.legal_histories.proofs.Restamped.{restamped}
use Rattle.legal_histories.proofs.going_on.the_last_entry_may_be_stamped_anew.Goals as goal

pub returns : goal.returns
returns c = restamped
