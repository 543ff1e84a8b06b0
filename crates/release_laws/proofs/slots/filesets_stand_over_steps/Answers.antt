use Rattle.release_laws.proofs.SlotsOver.{slots_over}
use Rattle.release_laws.proofs.slots.filesets_stand_over_steps.Goals as goal

pub returns : goal.returns
returns c = slots_over
