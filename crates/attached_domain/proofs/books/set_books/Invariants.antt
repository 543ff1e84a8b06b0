use Rattle.attached_domain.proofs.TheirBooks.{GetPart}
use Rattle.attached_domain.proofs.books.set_books.Given as goal

abbrev pub invariant-loop-n : goal.invariant-loop-n
invariant-loop-n g l = GetPart (g.M.MetaPages.pages l.pages) l.tables.filesets l.initial.slots.items l.slots.items l.n
