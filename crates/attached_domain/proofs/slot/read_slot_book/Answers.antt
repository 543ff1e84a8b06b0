use Rattle.attached_domain.proofs.OneOriginal.{any_book, read_there, some_there}
use Rattle.no_faults.proofs.OfFilesetShapes.Answered.{if_ok}
use Rattle.attached_domain.proofs.slot.read_slot_book.Goals as goal

pub unreachable-requires : goal.unreachable-requires
unreachable-requires g c =
    some_there (g.M.MetaPages.pages c.args.pages.now) c.args.tables.now.filesets c.args.number c.args.entry.now c.in_ok-found.field-0 c.requires.original c.in_ok-found.ensures c.in_default.is

pub read_book-requires : goal.read_book-requires
read_book-requires g c =
    let pages = g.M.MetaPages.pages c.args.pages.now in
    let has = read_there pages c.args.tables.now.filesets c.args.number c.args.entry.now c.in_ok-found.field-0 c.requires.original c.in_ok-found.ensures c.in-Some.found c.in-Some.is in
    (pages, has.shape, has.sees)

pub returns-clause-book : goal.returns-clause-book
returns-clause-book g c =
    let pages = g.M.MetaPages.pages c.args.pages.now in
    let table = c.args.tables.now.filesets in
    let has = read_there pages table c.args.number c.args.entry.now c.in_ok-found.field-0 c.requires.original c.in_ok-found.ensures c.in-Some.found c.in-Some.is in
    if_ok c.read_book.result _ _ (λ books each. any_book pages table c.args.number c.args.entry.now c.in-Some.found books.book has each) c.read_book.ensures.book
