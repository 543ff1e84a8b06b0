use Rattle.std.proofs.Common.{refl}
use Rattle.no_faults.specs.page_ways.Frame.{frame_in}
use Rattle.no_faults.proofs.OfDomainLayout.NoTables.{none_of_tables}
use Rattle.no_faults.proofs.OfFilesetShapes.SeenShapes.{good}
use Rattle.attached_domain.proofs.MayAttach.{domain_read, laid_so, layout_so}
use Rattle.attached_domain.proofs.PartsRead.{are_parts, says_read}
use Rattle.attached_domain.proofs.parts.read_parts.Goals as goal

pub read_tables-requires-clause-named : goal.read_tables-requires-clause-named
read_tables-requires-clause-named g c = c.requires.named

pub read_tables-requires-clause-no_fault : goal.read_tables-requires-clause-no_fault
read_tables-requires-clause-no_fault g c = none_of_tables (g.M.MetaPages.pages c.args.pages.now) (frame_in c.args.frame.now) c.requires.no_fault

pub look_at_all-requires-clause-domain : goal.look_at_all-requires-clause-domain
look_at_all-requires-clause-domain g c = domain_read (g.M.MetaPages.pages c.args.pages.now) (frame_in c.args.frame.now) c.requires c.in_ok-tables.tables c.in_ok-tables.ensures

pub read_slots-requires-clause-good : goal.read_slots-requires-clause-good
read_slots-requires-clause-good g c =
    let pages = g.M.MetaPages.pages c.args.pages.now in
    let frame = frame_in c.args.frame.now in
    good pages frame c.in_ok-tables.tables (domain_read pages frame c.requires c.in_ok-tables.tables c.in_ok-tables.ensures)

pub read_slots-requires-clause-says : goal.read_slots-requires-clause-says
read_slots-requires-clause-says g c = says_read (g.M.MetaPages.pages c.args.pages.now) (frame_in c.args.frame.now) c.in_ok-tables.tables c.in_ok-tables.ensures

pub set_books-requires-clause-domain : goal.set_books-requires-clause-domain
set_books-requires-clause-domain g c = domain_read (g.M.MetaPages.pages c.args.pages.now) (frame_in c.args.frame.now) c.requires c.in_ok-tables.tables c.in_ok-tables.ensures

pub set_books-requires-clause-count : goal.set_books-requires-clause-count
set_books-requires-clause-count g c = c.in_ok-slots.ensures.count

pub returns-clause-parts : goal.returns-clause-parts
returns-clause-parts g c =
    let pages = g.M.MetaPages.pages c.args.pages.now in
    let frame = frame_in c.args.frame.now in
    let tables = c.in_ok-tables.tables in
    let are = c.in_ok-tables.ensures in
    are_parts pages frame c.requires tables are
    (c.in_ok-look_at_all.ensures.fits (layout_so pages frame c.requires tables are) are.is (laid_so pages are.layout are.laid) are.table)
    c.in_ok-links.links c.in_ok-links.ensures c.in_ok-slots.slots.items c.set_books.new.slots.items c.in_ok-slots.ensures c.in_ok-set_books.ensures
    (record { table = tables.filesets; links = c.in_ok-links.links; slots = c.set_books.new.slots }) refl refl refl
