use Rattle.domain_memory.proofs.OfStandingLaws.SoundInPlace.{sound_elsewhere}
use Rattle.no_faults.proofs.places.soundness_stays_where_other_pages_change.Goals as goal

pub returns : goal.returns
returns c = sound_elsewhere
