use Rattle.domain_memory.proofs.OfStandingLaws.SoundInPlace.{sound_bounded}
use Rattle.no_faults.proofs.places.soundness_stays_where_a_fileset_is_bounded.Goals as goal

pub returns : goal.returns
returns c = sound_bounded
