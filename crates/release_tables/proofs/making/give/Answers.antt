use Rattle.release_steps.specs.page_store.Homes.{pages_of}
use Rattle.file_world.proofs.Kept.{given_or_kept}
use Rattle.release_tables.proofs.Callings.{gave, stands_now}
use Rattle.release_tables.proofs.making.give.Goals as goal

pub returns-clause-world : goal.returns-clause-world
returns-clause-world c =
    let files = c.args.world.now.files in
    given_or_kept files.fileset files.tags c.args.tag c.args.page c.args.version c.requires.0 c.give_page.new.space c.args.world.now.cells c.give_page.new.cells (pages_of c.args.world.now.pages.entries.items) (pages_of c.give_page.new.pages.entries.items) c.give_page.result
    (c.give_page.ensures.ok c.requires.0 c.requires.1) (c.give_page.ensures.kept c.requires.0 c.requires.1)

pub returns-clause-calls : goal.returns-clause-calls
returns-clause-calls c = λ first list stood called.
    let world = c.args.world.now in
    let now = c.give_page.new in
    let e = c.give_page.ensures in
    let together = (stands_now world.files.fileset c.args.version c.args.tag first _ stood called).together in
    gave world.files.fileset c.args.version c.args.tag first world.files.tags list world.space now.space world.cells now.cells (pages_of world.pages.entries.items) (pages_of now.pages.entries.items) called _ c.args.page c.give_page.result
    (e.ok called.chains together) (e.taken called.chains together) (e.err called.chains together) e.cells e.pages (e.others called.chains together) e.elsewhere
