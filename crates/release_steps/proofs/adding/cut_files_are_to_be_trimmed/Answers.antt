use Rattle.release_steps.proofs.Listing.{cut_left}
use Rattle.release_steps.proofs.adding.cut_files_are_to_be_trimmed.Goals as goal

pub returns : goal.returns
returns c = cut_left
