use Rattle.standing_laws.proofs.IndexSet.{written_slots}
use Rattle.standing_laws.proofs.elsewhere.other_slots_stay_where_an_index_page_is_written.Goals as goal

pub returns : goal.returns
returns c = λ number tag start d now chains files indexes page bytes below names same same_space writes. written_slots number tag d now chains files indexes page bytes below same same_space start names writes
