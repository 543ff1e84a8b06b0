use Rattle.release_steps.specs.page_store.Homes.{pages_of}
use Rattle.release_tables.proofs.Goings.{cut_going}
use Rattle.release_tables.proofs.Callings.{cut_one, stands_now}
use Rattle.release_tables.proofs.making.cut.Goals as goal

pub returns-clause-world : goal.returns-clause-world
returns-clause-world c = let world = c.args.world.now in (_, (c.in_ok-truncate.ensures.together world.space world.cells c.requires.0 c.requires.1).together)

pub returns-clause-going : goal.returns-clause-going
returns-clause-going c =
    let world = c.args.world.now in
    cut_going (pages_of c.truncate.new.pages.entries.items) world.files.fileset world.files.tags world.space world.cells c.args.tag c.args.size c.requires.0
    (c.in_ok-truncate.ensures.together world.space world.cells c.requires.0 c.requires.1) _ (c.in_ok-truncate.ensures.ok c.requires.0 c.requires.1.files)

pub returns-clause-calls : goal.returns-clause-calls
returns-clause-calls c = λ version first list stood called.
    let world = c.args.world.now in
    let new = pages_of c.truncate.new.pages.entries.items in
    let e = c.in_ok-truncate.ensures in
    let together = (stands_now world.files.fileset version c.args.tag first _ stood called).together in
    cut_one world.files.fileset version c.args.tag c.args.size first world.files.tags list world.space world.cells (pages_of world.pages.entries.items) new called
    (e.together world.space world.cells called.chains together) (e.beside called.chains together.files) (together.files.some c.args.tag) c.in_ok-truncate.field-0 (e.ok called.chains together.files)
