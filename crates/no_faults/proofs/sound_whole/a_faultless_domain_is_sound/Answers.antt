use Rattle.no_faults.proofs.Faultless.{faultless_sound}
use Rattle.no_faults.proofs.sound_whole.a_faultless_domain_is_sound.Goals as goal

pub returns : goal.returns
returns c = faultless_sound
