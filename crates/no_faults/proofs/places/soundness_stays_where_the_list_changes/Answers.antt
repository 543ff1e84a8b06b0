use Rattle.domain_memory.proofs.OfStandingLaws.SoundInPlace.{sound_listed}
use Rattle.no_faults.proofs.places.soundness_stays_where_the_list_changes.Goals as goal

pub returns : goal.returns
returns c = sound_listed
