use Rattle.domain_memory.proofs.OfStandingLaws.SoundCalled.{sound_called}
use Rattle.no_faults.proofs.calls.soundness_stays_after_a_call.Goals as goal

pub returns : goal.returns
returns c = sound_called
