use Rattle.domain_memory.proofs.OfStandingLaws.SoundInPlace.{sound_memory}
use Rattle.no_faults.proofs.places.soundness_stays_where_a_domain_is_kept.Goals as goal

pub returns : goal.returns
returns c = sound_memory
