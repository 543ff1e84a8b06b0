use Rattle.domain_memory.proofs.OfStandingLaws.SoundGone.{sound_gone}
use Rattle.no_faults.proofs.indexes.soundness_stays_where_a_file_goes_with_its_index.Goals as goal

pub returns : goal.returns
returns c = λ number tag start d now chains files indexes group listed below sound names same. sound_gone number tag d now chains files indexes group below sound same listed start names
