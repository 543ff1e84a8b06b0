use Rattle.release_laws.proofs.ParentsOver.{parents_over}
use Rattle.release_laws.proofs.slots.parents_stay_over_steps.Goals as goal

pub returns : goal.returns
returns c = parents_over
