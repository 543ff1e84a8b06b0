use Rattle.release_steps.proofs.Listing.{page_among}
use Rattle.release_steps.proofs.adding.tags_stay_among_where_a_page_is_listed.Goals as goal

pub returns : goal.returns
returns c = page_among
