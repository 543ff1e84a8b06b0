use Rattle.release_steps.proofs.OtherPages.{other_pages_same}
use Rattle.release_steps.proofs.calls.other_pages_stay.Goals as goal

pub returns : goal.returns
returns c = other_pages_same
