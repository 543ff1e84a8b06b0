use Rattle.standing_laws.proofs.IndexSet.{written}
use Rattle.standing_laws.proofs.indexes.all_stands_on_where_an_index_page_is_written.Goals as goal

pub returns : goal.returns
returns c = λ number tag start d now chains files indexes page bytes below names same same_space writes. written number tag d now chains files indexes page bytes below same same_space start names writes
