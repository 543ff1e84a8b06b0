use Rattle.release_laws.proofs.FreedPages.{bits_freed}
use Rattle.release_laws.proofs.freeing.bits_say_what_is_held_where_pages_come_free.Goals as goal

pub returns : goal.returns
returns c = bits_freed
