use Rattle.release_steps.proofs.Listing.{page_listed}
use Rattle.release_steps.proofs.adding.all_stays_well_where_a_page_is_listed.Goals as goal

pub returns : goal.returns
returns c = page_listed
