use Rattle.release_steps.proofs.Listing.{list_stays}
use Rattle.release_steps.proofs.calls.the_list_stays.Goals as goal

pub returns : goal.returns
returns c = list_stays
