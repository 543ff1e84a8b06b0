use Rattle.release_steps.proofs.SourcesStay.{sources_stay}
use Rattle.release_steps.proofs.calls.what_is_read_through_stays.Goals as goal

pub returns : goal.returns
returns c = sources_stay
