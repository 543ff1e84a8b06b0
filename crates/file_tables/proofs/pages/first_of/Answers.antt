use Rattle.release_steps.specs.page_store.Homes.{pages_of}
use Rattle.file_tables.proofs.Counted.{directory_any}
use Rattle.file_tables.proofs.pages.first_of.Goals as goal

pub page_of-requires-clause-directory : goal.page_of-requires-clause-directory
page_of-requires-clause-directory c = λ set was.
    let world = c.args.world.now in
    let (one, shown, directory, count) = c.requires in
    let same = c.one_set_is_shown.ensures world.files.fileset world.files.tags world.space world.space world.cells world.cells (pages_of world.pages.entries.items) one set c.args.tag shown was in
    directory_any one set c.args.tag same directory
