use Rattle.release_steps.proofs.Listing.{entry_among}
use Rattle.release_steps.proofs.adding.tags_stay_among_where_a_file_is_listed.Goals as goal

pub returns : goal.returns
returns c = entry_among
