use Rattle.release_laws.proofs.BitsOver.{bits_over}
use Rattle.release_laws.proofs.bits.bits_stay_over_steps.Goals as goal

pub returns : goal.returns
returns c = bits_over
