use Rattle.release_laws.proofs.FreedPages.{below_freed}
use Rattle.release_laws.proofs.freeing.all_below_stands_on_where_pages_come_free.Goals as goal

pub returns : goal.returns
returns c = below_freed
