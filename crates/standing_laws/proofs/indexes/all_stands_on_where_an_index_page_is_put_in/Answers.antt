use Rattle.standing_laws.proofs.IndexSet.{added}
use Rattle.standing_laws.proofs.indexes.all_stands_on_where_an_index_page_is_put_in.Goals as goal

pub returns : goal.returns
returns c = λ number tag start d now chains files indexes place prefer bytes below names same adds. added number tag d now chains files indexes place prefer bytes below same start names adds
