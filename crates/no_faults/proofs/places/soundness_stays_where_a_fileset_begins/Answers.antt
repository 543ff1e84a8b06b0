use Rattle.domain_memory.proofs.OfStandingLaws.SoundInPlace.{sound_begun}
use Rattle.no_faults.proofs.places.soundness_stays_where_a_fileset_begins.Goals as goal

pub returns : goal.returns
returns c = sound_begun
