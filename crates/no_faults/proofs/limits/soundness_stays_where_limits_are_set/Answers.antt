use Rattle.domain_memory.proofs.OfStandingLaws.SoundLimited.{sound_limited}
use Rattle.no_faults.proofs.limits.soundness_stays_where_limits_are_set.Goals as goal

pub returns : goal.returns
returns c = sound_limited
