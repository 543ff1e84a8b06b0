use Rattle.set_standing.proofs.Changed.{written}
use Rattle.set_standing.proofs.changes.a_page_is_written.Goals as goal

pub returns : goal.returns
returns c = written
