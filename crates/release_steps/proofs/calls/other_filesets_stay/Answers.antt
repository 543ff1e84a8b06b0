use Rattle.release_steps.proofs.OtherFilesets.{other_filesets_same}
use Rattle.release_steps.proofs.calls.other_filesets_stay.Goals as goal

pub returns : goal.returns
returns c = other_filesets_same
