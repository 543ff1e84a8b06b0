use Rattle.domain_memory.proofs.OfStandingLaws.SoundIndexed.{sound_written}
use Rattle.no_faults.proofs.indexes.soundness_stays_where_an_index_page_is_written.Goals as goal

pub returns : goal.returns
returns c = λ number tag start d now chains files indexes page bytes below sound names same good. sound_written number tag d now chains files indexes page bytes below sound same good start names
