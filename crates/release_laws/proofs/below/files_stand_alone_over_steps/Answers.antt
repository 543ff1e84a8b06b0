use Rattle.release_laws.proofs.BelowGo.{alone_goes}
use Rattle.release_laws.proofs.below.files_stand_alone_over_steps.Goals as goal

pub returns : goal.returns
returns c = alone_goes
