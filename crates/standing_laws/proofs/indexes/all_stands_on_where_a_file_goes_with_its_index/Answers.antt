use Rattle.standing_laws.proofs.IndexGone.{gone}
use Rattle.standing_laws.proofs.indexes.all_stands_on_where_a_file_goes_with_its_index.Goals as goal

pub returns : goal.returns
returns c = λ number tag start d now chains files indexes group below names same together removes gives clone listed may adds same_pages. (gone number tag d now chains files indexes group below same together start names removes gives clone listed may adds same_pages).0
