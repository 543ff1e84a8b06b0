use Rattle.domain_memory.proofs.OfStandingLaws.SoundInPlace.{sound_going}
use Rattle.no_faults.proofs.places.soundness_stays_where_a_fileset_begins_to_go.Goals as goal

pub returns : goal.returns
returns c = sound_going
