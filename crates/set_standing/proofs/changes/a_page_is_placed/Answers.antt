use Rattle.set_standing.proofs.Changed.{joined}
use Rattle.set_standing.proofs.changes.a_page_is_placed.Goals as goal

pub returns : goal.returns
returns c = λ contents now state page home node within agree was. joined contents now state page home within agree node was
