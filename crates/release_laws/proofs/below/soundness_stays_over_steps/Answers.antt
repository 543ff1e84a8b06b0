use Rattle.release_laws.proofs.SoundGo.{is_sound_still, sound_goes}
use Rattle.release_laws.proofs.below.soundness_stays_over_steps.Goals as goal

pub returns-clause-stands : goal.returns-clause-stands
returns-clause-stands c = sound_goes

pub returns-clause-is : goal.returns-clause-is
returns-clause-is c = is_sound_still
