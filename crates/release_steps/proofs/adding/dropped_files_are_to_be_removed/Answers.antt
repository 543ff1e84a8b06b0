use Rattle.release_steps.proofs.Listing.{dropped_left}
use Rattle.release_steps.proofs.adding.dropped_files_are_to_be_removed.Goals as goal

pub returns : goal.returns
returns c = dropped_left
