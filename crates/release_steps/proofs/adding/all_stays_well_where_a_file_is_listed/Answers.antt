use Rattle.release_steps.proofs.Listing.{entry_listed}
use Rattle.release_steps.proofs.adding.all_stays_well_where_a_file_is_listed.Goals as goal

pub returns : goal.returns
returns c = entry_listed
