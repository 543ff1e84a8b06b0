use Rattle.release_steps.specs.domain_base.declared.place.Kind.TheVariants.{Directory}
use Rattle.release_steps.specs.page_store.Homes.{pages_of}
use Rattle.file_tables.proofs.First.{has_none, is_directory}
use Rattle.file_tables.specs.Worlds.{only_new}
use Rattle.file_tables.proofs.sets.add_first.Goals as goal

pub add_page-requires-clause-directory : goal.add_page-requires-clause-directory
add_page-requires-clause-directory c = λ set was.
    let world = c.args.world.now in
    is_directory set c.args.tag (c.one_set_is_shown.ensures world.files.fileset world.files.tags world.space world.space world.cells world.cells (pages_of world.pages.entries.items) (only_new Directory c.args.tag) set c.args.tag c.requires was)

pub add_page-requires-clause-last : goal.add_page-requires-clause-last
add_page-requires-clause-last c = λ set was.
    let world = c.args.world.now in
    has_none set c.args.tag (c.one_set_is_shown.ensures world.files.fileset world.files.tags world.space world.space world.cells world.cells (pages_of world.pages.entries.items) (only_new Directory c.args.tag) set c.args.tag c.requires was)
