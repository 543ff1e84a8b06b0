use Rattle.release_laws.proofs.FreedPages.{slots_freed}
use Rattle.release_laws.proofs.freeing.filesets_stand_on_where_pages_come_free.Goals as goal

pub returns : goal.returns
returns c = slots_freed
