use Rattle.standing_laws.proofs.IndexSet.{added_slots}
use Rattle.standing_laws.proofs.elsewhere.other_slots_stay_where_an_index_page_is_put_in.Goals as goal

pub returns : goal.returns
returns c = λ number tag start d now chains files indexes place prefer bytes below names same adds. added_slots number tag d now chains files indexes place prefer bytes below same start names adds
