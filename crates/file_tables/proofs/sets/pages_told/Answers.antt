use Rattle.release_steps.specs.page_store.Homes.{pages_of}
use Rattle.file_tables.proofs.First.{page_directory}
use Rattle.file_tables.specs.Worlds.{with_first_page}
use Rattle.file_tables.proofs.sets.pages_told.Goals as goal

pub page_of-first-requires-clause-directory : goal.page_of-first-requires-clause-directory
page_of-first-requires-clause-directory c = λ set was.
    let world = c.args.world.now in
    page_directory set c.args.tag c.args.bytes.now
    (c.one_set_is_shown.ensures world.files.fileset world.files.tags world.space world.space world.cells world.cells (pages_of world.pages.entries.items) (with_first_page c.args.tag c.args.bytes.now) set c.args.tag c.requires was)

pub page_of-second-requires-clause-directory : goal.page_of-second-requires-clause-directory
page_of-second-requires-clause-directory c = λ set was.
    let world = c.args.world.now in
    page_directory set c.args.tag c.args.bytes.now
    (c.one_set_is_shown.ensures world.files.fileset world.files.tags world.space world.space world.cells world.cells (pages_of world.pages.entries.items) (with_first_page c.args.tag c.args.bytes.now) set c.args.tag c.requires was)
